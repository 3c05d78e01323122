-- The laws of either, from those of both.
use Rattle.std.specs.Prelude.{◌≡◌, ℕ, Bool, List, length, Result}
use Rattle.device.specs.declared.device.Device
use Rattle.device.specs.declared.either.Either.{Either}
use Rattle.device.specs.declared.either.Either.TheVariants.{First, Second}
use Rattle.device.specs.declared.fault.Fault.{Fault}
use Rattle.device.specs.declared.source.Source
use Rattle.device.specs.Either.{either_meaning, either_reads, either_writes, either_settles}
use Rattle.device.specs.Meaning.{IsMeaning, CanRead, KeepsReads, KeepsWrites, Written, Settled}

module _ {A B : Type 0} (g : Source.Ghosts A) (h : Source.Ghosts B) where
  module _ (keeps_a : KeepsReads g.meaning g.reads) (keeps_b : KeepsReads h.meaning h.reads) where
    either_means : (s : Either A B) → IsMeaning (either_meaning g h s)
    either_means (First a) = keeps_a.means a
    either_means (Second b) = keeps_b.means b

    either_answers : (s t : Either A B) {way n : ℕ} {answer : Result (List ℕ) Fault} → either_reads g h s way n answer t → CanRead (either_meaning g h s) way n answer
    either_answers (First a) (First t) r = keeps_a.answers r
    either_answers (First a) (Second t) r = absurd r
    either_answers (Second b) (First t) r = absurd r
    either_answers (Second b) (Second t) r = keeps_b.answers r

    either_stands : (s t : Either A B) (way n : ℕ) (answer : Result (List ℕ) Fault) → either_reads g h s way n answer t → either_meaning g h t ≡ either_meaning g h s
    either_stands (First a) (First t) way n answer r = keeps_a.stands r
    either_stands (First a) (Second t) way n answer r = absurd r
    either_stands (Second b) (First t) way n answer r = absurd r
    either_stands (Second b) (Second t) way n answer r = keeps_b.stands r

    pub either_keeps : KeepsReads (either_meaning g h) (either_reads g h)
    either_keeps =
        record {
          means = either_means;
          answers = λ {s} {t} r. either_answers s t r;
          stands = λ {s} {t} {way} {n} {answer} r. either_stands s t way n answer r;
        }

  module _ (c : Device.Ghosts A) (d : Device.Ghosts B) (keeps_a : KeepsWrites g.meaning c.writes c.settles) (keeps_b : KeepsWrites h.meaning d.writes d.settles) where
    either_written : (s t : Either A B) {n : ℕ} {block : List ℕ} {answer : Result Unit Fault} → length block ≡ 512 →
        either_writes c d s n block answer t → Written (either_meaning g h s) n block answer (either_meaning g h t)
    either_written (First a) (First t) long r = keeps_a.written long r
    either_written (First a) (Second t) long r = absurd r
    either_written (Second b) (First t) long r = absurd r
    either_written (Second b) (Second t) long r = keeps_b.written long r

    either_settled : (s t : Either A B) {answer : Bool} → either_settles c d s answer t → Settled (either_meaning g h s) answer (either_meaning g h t)
    either_settled (First a) (First t) r = keeps_a.settled r
    either_settled (First a) (Second t) r = absurd r
    either_settled (Second b) (First t) r = absurd r
    either_settled (Second b) (Second t) r = keeps_b.settled r

    pub either_keeps_writes : KeepsWrites (either_meaning g h) (either_writes c d) (either_settles c d)
    either_keeps_writes =
        record {
          written = λ {s} {t} long r. either_written s t long r;
          settled = λ {s} {t} r. either_settled s t r;
        }
