-- The law of the bottom of bytes lent for reading.
use Rattle.std.proofs.Common.{ap}
use Rattle.device.specs.CheckLaws.{guarded_answers, guarded_stands}
use Rattle.device.specs.Meaning.{KeepsReads}
use Rattle.device.specs.MemoryLaws.{bytes_mean}
use Rattle.device.specs.Sealed.{sealed_meaning, sealed_reads}

pub sealed_keeps : KeepsReads sealed_meaning sealed_reads
sealed_keeps =
    record {
      means = λ s. bytes_mean s.bytes.now;
      answers = λ r. guarded_answers r (λ e goes. goes.0);
      stands = λ r. guarded_stands sealed_meaning r (λ e goes. ap sealed_meaning goes.1);
    }
