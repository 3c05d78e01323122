use Rattle.std.proofs.Common.{rules, ◌≡◌, Ok, Err}
use Rattle.piles.specs.Obeys.{clear, done, held, not_done, seen, unseen}
use Rattle.piles.proofs.play.obey.Goals as goal

pub returns-in_err-write-in-Write : goal.returns-in_err-write-in-Write
returns-in_err-write-in-Write g c =
    let fault = c.in_err-write-in-Write.field-0.0 in
    let refused : c.from_residual.result ≡ Err fault = search rules in
    rw c.in-Write.is (rw refused (not_done c.in_err-write-in-Write.ensures.cells))

pub returns-in_err-read-in-Read : goal.returns-in_err-read-in-Read
returns-in_err-read-in-Read g c =
    let fault = c.in_err-read-in-Read.field-0.0 in
    let refused : c.from_residual-in_err-read-in-Read.result ≡ Err fault = search rules in
    let keeps = g.met.D.Source.keeps in
    let step = c.in_err-read-in-Read.ensures.step in
    rw c.in-Read.is (rw refused (unseen (keeps.answers {answer = Err fault} step) (keeps.stands {answer = Err fault} step)))

pub returns-in_ok-write-in-Write : goal.returns-in_ok-write-in-Write
returns-in_ok-write-in-Write g c = rw c.in-Write.is (done c.in_ok-write-in-Write.ensures.cells)

pub returns-in_ok-read-in-Read : goal.returns-in_ok-read-in-Read
returns-in_ok-read-in-Read g c =
    let block = c.read.new.area in
    let keeps = g.met.D.Source.keeps in
    let step = c.in_ok-read-in-Read.ensures.step in
    rw c.in-Read.is (seen block (keeps.answers {answer = Ok block} step) c.of_block.ensures (keeps.stands {answer = Ok block} step))

pub returns-then-settle : goal.returns-then-settle
returns-then-settle g c =
    let settled = g.met.D.Device.keeps_writes.settled c.settle.ensures in
    rw c.in-Settle.is (clear (rw c.if-settle.true at settled))

pub returns-else-settle : goal.returns-else-settle
returns-else-settle g c =
    let settled = g.met.D.Device.keeps_writes.settled c.settle.ensures in
    rw c.in-Settle.is (held (rw c.if-settle.false at settled))
