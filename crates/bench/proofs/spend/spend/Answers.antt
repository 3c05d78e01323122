use Rattle.std.proofs.Common.{ap}
use Rattle.volume.specs.Refusals.{reason}
use Rattle.volume.specs.Replay.{out_of}
use Rattle.volume.specs.Slips.{slip_number, unspent}
use Rattle.volume.specs.View.{base, view}
use Rattle.bench.proofs.Outs.{kept_from, left_with, owed_out, spent_beside}
use Rattle.bench.proofs.spend.spend.Goals as goal

pub unreachable-requires : goal.unreachable-requires
unreachable-requires g c =
    let b = base g.D.Source g.T.Source g.D.Device g.T.Device g.H.Hash in
    let d = base g.E.Source g.U.Source g.E.Device g.U.Device g.G.Hash in
    let s = c.in-Some.slip in
    let back = c.in-Err.field-0.slip in
    let first = kept_from b c.args.volume.now c.leave.new.self (slip_number s) (reason c.in-Err.field-0.refusal) (unspent c.leave.result) c.leave.ensures.step (ap unspent c.in-Err.is) in
    let second = kept_from d c.args.companion.now c.leave-2.new.self (slip_number back) (reason c.in-Err-leave.field-0.refusal) (unspent c.leave-2.result) c.leave-2.ensures.step (ap unspent c.in-Err-leave.is) in
    owed_out (view b c.args.volume.now) (view d c.args.companion.now) c.args.held s back c.requires c.in-Some.is c.in-Err.ensures.back first.1 second.1

pub returns : goal.returns
returns g c =
    let b = base g.D.Source g.T.Source g.D.Device g.T.Device g.H.Hash in
    let d = base g.E.Source g.U.Source g.E.Device g.U.Device g.G.Hash in
    let s = c.in-Some.slip in
    let back = c.in-Err.field-0.slip in
    let first = kept_from b c.args.volume.now c.leave.new.self (slip_number s) (reason c.in-Err.field-0.refusal) (unspent c.leave.result) c.leave.ensures.step (ap unspent c.in-Err.is) in
    spent_beside (view b c.args.volume.now) (view d c.args.companion.now) (view b c.leave.new.self) (view d c.leave-2.new.self) c.args.held s back c.in-Some.is
    c.in-Err.ensures.back (λ k. ap (λ u. out_of k (view b u)) first.0)
    (left_with d c.args.companion.now c.leave-2.new.self (slip_number back) (unspent c.leave-2.result) c.leave-2.ensures.step (ap unspent c.in_default-leave-2.is))
