-- Any two outcomes that a contract of this crate allows coincide: the number that comes back.
use Prim.Native.Nat.{ℕ}
use mathlib.Core.Path.{◌≡◌, sym, ap, ◌∙◌}
use mathlib.Core.Logic.{inl, inr}
use Rattle.language.proofs.Determined.{Determined}
use Rattle.rules.specs.Calls.{Trying, decides, unread, given-up}
use Rattle.try_host.specs.Host.{TryNumber}
use Rattle.try_host.specs.contracts.desk_try as desk-try-contract
use Rattle.try_host.proofs.desk_try.Reads as desk-try-reads
use Rattle.try_host.specs.contracts.desk_place as desk-place-contract
use Rattle.try_host.proofs.desk_place.Reads as desk-place-reads

-- a filling does not both meet a question and not meet it
one_number : (t : Trying) (n m : ℕ) → TryNumber t n → TryNumber t m → n ≡ m
unfolding TryNumber
one_number (decides q ρ) n m (inl e) (inl d) = e.0 ∙ sym d.0
one_number (decides q ρ) n m (inl e) (inr d) = absurd (d.1 e.1)
one_number (decides q ρ) n m (inr e) (inl d) = absurd (e.1 d.1)
one_number (decides q ρ) n m (inr e) (inr d) = e.0 ∙ sym d.0
one_number (unread r) n m e d = e ∙ sym d
one_number (given-up r) n m e d = e ∙ sym d

desk_try-determined : Determined desk-try-contract.ended desk-try-reads.Pre desk-try-reads.Post
desk_try-determined κs a p o q e d = ap (λ n. (n, o.1)) (one_number _ _ _ e d)

desk_place-determined : Determined desk-place-contract.ended desk-place-reads.Pre desk-place-reads.Post
desk_place-determined κs a p o q e d = ap (λ n. (n, o.1)) (e ∙ sym d)
