use Rattle.std.proofs.Common.{◌≡◌, rules}
use Rattle.volume.proofs.volume.Volume.put_passed.Goals as goal

-- the slices are the arrays
pub returns : goal.returns
returns g c =
    let block : c.args.block.now ≡ c.in-Some-Some.block.now = search rules in
    let log : c.args.log.now ≡ c.in-Some-Some.log.now = search rules in
    rw block (rw log c.put_blocks.ensures)
