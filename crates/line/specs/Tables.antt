-- Tables of records, by their numbers. Assumes nothing.
use Rattle.std.specs.Prelude.{ℕ, replicate, Some, None, Option, slice_index_or, slice_set}
use Rattle.line.specs.declared.tables.Table.{Table}

module _ {X : Type 0} {n : ℕ} where
  unfoldable pub no_records : Table X n
  no_records = record { records = replicate n None }

  -- nothing stands past the end
  abbrev pub record_at : Table X n → ℕ → Option X
  record_at table number = slice_index_or table.records number None

  abbrev pub with_record : Table X n → ℕ → X → Table X n
  with_record table number new = record table { records = slice_set table.records number (Some new) }
