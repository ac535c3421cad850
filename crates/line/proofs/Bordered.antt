-- The rules compute to their worked examples. Assumes nothing.
use Rattle.line.specs.Borders.{Borders}
use Rattle.line.specs.Services.{share_of}
use Rattle.line.specs.Tables.{no_records}

pub borders : Borders
unfolding share_of no_records
borders = search
