use Rattle.std.proofs.Common.{◌≡◌, Err, refl, rules}
use Rattle.device.specs.Zeros.{zeros}
use Rattle.volume.specs.Record.{blank}
use Rattle.volume.specs.Refusals.{told}
use Rattle.volume.proofs.Fetches.{fetched_none, fetched_then}
use Rattle.volume.proofs.walk.fetch.Goals as goal

pub returns-in_err-expected : goal.returns-in_err-expected
unfolding zeros blank
returns-in_err-expected g c =
    let a = c.args in
    let refusal = c.in_err-expected.field-0.0 in
    let e : c.from_residual.result ≡ Err refusal = search rules in
    rw e (fetched_none g.S.Source g.U.Source (g.H.Hash.image a.hash.now) a.geometry.blocks a.number a.root.now a.store.now a.tree.now c.walk.new.tree c.walk.result c.walk.new.log
    refusal zeros c.in_err-expected.was c.walk.ensures refl)

pub returns : goal.returns
unfolding zeros blank
returns g c =
    let a = c.args in
    let to = c.fetch_block.new in
    fetched_then g.S.Source g.U.Source (g.H.Hash.image a.hash.now) a.geometry.blocks a.number a.root.now a.store.now a.tree.now c.walk.new.tree c.walk.result c.walk.new.log
    c.in_ok-expected.expected (told c.fetch_block.result) to.block to.log to.store c.in_ok-expected.was c.walk.ensures c.fetch_block.ensures
