-- Tables of records: an empty one, and one record put in its place. Assumes nothing.
use Rattle.std.proofs.Common.{◌≡◌, ◌≢◌, ◌⊎◌, ℕ, ◌<◌, true, List, length, get_or, set, replicate, is_some, Some, None, Option, arith}
use Rattle.std.proofs.lemmas.List.{get_or-set_same, get_or-set_other, get_or_past}
use Rattle.std.proofs.lemmas.Bool.{cases_eq}
use Rattle.std.proofs.lemmas.Grind.{common_steps}

module _ {X : Type 0} where
  -- no record is past the end
  pub there_inside : (records : List (Option X)) (k : ℕ) → is_some (get_or records k None) ≡ true → k < length records
  there_inside records k there = grind (arith, get_or_past)

  pub none_anywhere : (n k : ℕ) → get_or {A = Option X} (replicate n None) k None ≡ None
  none_anywhere n k = grind (arith, common_steps)

  -- after a write, what stands at each place; the first part shows `grind` the term to look for
  pub placed : (records : List (Option X)) (number k : ℕ) (x : Option X) → number < length records → (get_or (set records number x) k None ≡ get_or (set records number x) k None) × (((k ≡ number) × (get_or (set records number x) k None ≡ x)) ⊎ ((k ≢ number) × (get_or (set records number x) k None ≡ get_or records k None)))
  placed records number k x inside = grind (arith, get_or-set_same, get_or-set_other, cases_eq k number)

  -- what holds at every place, and of a new record at its own, holds at every place with the new one among them
  pub at_every_place : (Q : ℕ → Option X → Type 0) (records : List (Option X)) (number : ℕ) (x : X) → number < length records → ((k : ℕ) → Q k (get_or records k None)) → Q number (Some x) → (k : ℕ) → Q k (get_or (set records number (Some x)) k None)
  at_every_place Q records number x inside all new k = grind (arith, placed, all k)
