-- What solving returns and leaves in the two lent slices: in the paper's numbers, as the contract says it, and as the answer that has these numbers.
pub use Rattle.around.specs.Told.{verdict_for, refused_by}
pub use Rattle.running.specs.Leaves.{verdict_value, refused_numbers, told_leaves, verdict, leaves}
