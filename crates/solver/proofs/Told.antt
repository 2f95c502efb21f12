-- What solving returns, in numbers and as the answer that has them: each gives the other, since the numbers tell the cases apart.
pub use Rattle.running.proofs.Told.{told-leaves, leaves-told}
