use Rattle.std.proofs.Common.{◌≡◌, ℕ, ◌*◌, List, refl, arith}
use borrow.Rule.Slice.PartMut.{put_mid}
use Rattle.device.specs.Memory.{with_part}
use Rattle.device.specs.MemoryLaws.{memory_written, put_with_part}
use Rattle.device.proofs.memory.Memory.put_block.Goals as goal

put_so : (bytes : List ℕ) (n start wide : ℕ) (new block : List ℕ) → start ≡ 512 * n → wide ≡ 512 → new ≡ block → put_mid start wide bytes new ≡ with_part bytes n block
put_so bytes n start wide new block begins long same = rw (begins, long, same) (put_with_part bytes n block)

pub returns-clause-step : goal.returns-clause-step
returns-clause-step c = record { lent = refl; bytes = put_so _ _ _ _ _ _ (omega arith) (omega arith) c.copy_from_slice.ensures.after }

pub returns-clause-cells : goal.returns-clause-cells
returns-clause-cells c = memory_written (omega arith) c.requires refl (returns-clause-step c)
