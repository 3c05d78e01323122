use Rattle.digest.proofs.Lanes.{sixteen}
use Rattle.digest.proofs.schedule.Window.of.Goals as goal

pub returns : goal.returns
returns c =
    rw (c.four_words.ensures, c.four_words-2.ensures, c.four_words-3.ensures, c.four_words-4.ensures) (sixteen c.args.block.now)
