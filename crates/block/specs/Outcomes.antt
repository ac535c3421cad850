-- How the outcome of a call is printed. Assumes nothing.
use Rattle.std.specs.Prelude.{ℕ, List, ◌++◌, Ok, Err, codes, decimal, Result}
use Rattle.line.specs.declared.refusals.Refusal.{Refusal}
use Rattle.line.specs.Refusals.{number_of, words_of}

abbrev pub outcome_words : Result (Unit {0}) Refusal → List ℕ
outcome_words (Ok done) = codes "done"
outcome_words (Err refusal) = codes "refused " ++ (decimal (number_of refusal) ++ (codes ", " ++ words_of refusal))
