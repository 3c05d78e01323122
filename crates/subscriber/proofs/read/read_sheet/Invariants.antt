use Rattle.std.proofs.Common.{◌≡◌, ◌+◌, length}
use Rattle.std.specs.Iterator.Adapters.{enumerate_source, enumerate_count}
use Rattle.subscriber.specs.Sheet.{read_from, sheet_of}
use Rattle.subscriber.specs.Text.{lines}
use Rattle.subscriber.proofs.read.read_sheet.Given as goal

abbrev pub invariant-loop-i : goal.invariant-loop-i
invariant-loop-i l = record {
  counted : enumerate_count l.i-iterator + length (lines (enumerate_source l.i-iterator).text.now) ≡ length (lines l.text);
  last : l.last ≡ enumerate_count l.i-iterator;
  answer : read_from (enumerate_count l.i-iterator + 1) l.reading (lines (enumerate_source l.i-iterator).text.now) ≡ sheet_of l.text;
}
