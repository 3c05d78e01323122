use Rattle.std.proofs.Common.{ap, rules}
use Rattle.std.specs.Prelude.{string_bytes}
use Rattle.trial.proofs.Runs.{by_sha256, by_siphash}
use Rattle.trial.proofs.drill.Goals as goal
use Rattle.trial.proofs.drill.Goals.{in-Sha256+in_ok-text-in-Sha256, in-SipHash+in_ok-text-in-SipHash}

pub returns-in_err-tray : goal.returns-in_err-tray
returns-in_err-tray c = search rules

pub returns : goal.returns
returns c = (
  c.in_ok-tray.tray,
  c.in_ok-tray.ensures.answer,
  elim c.match-tray.branch [
    | in-Sha256+in_ok-text-in-Sha256 w ↦ by_sha256 _ _ w.in-Sha256.salt w.new.result _ _ w.in-Sha256.is w.new.ensures.salt (ap string_bytes w.text-is) w.in_ok-text-in-Sha256.ensures
    | in-SipHash+in_ok-text-in-SipHash w ↦ by_siphash _ _ w.in-SipHash.key w.new-in-SipHash.result _ _ w.in-SipHash.is w.new-in-SipHash.ensures.key (ap string_bytes w.text-is) w.in_ok-text-in-SipHash.ensures
  ],
)
