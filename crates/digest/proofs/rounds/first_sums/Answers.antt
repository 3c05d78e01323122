use Rattle.std.proofs.Common.{◌≡◌, length, replicate, refl, rules}
use Rattle.digest.proofs.Sums.{first_four}
use Rattle.digest.proofs.rounds.first_sums.Goals as goal

pub returns : goal.returns
returns c =
    let w = c.args.window in
    let h0 : length w.w0 ≡ 4 = search rules in
    let h1 : length w.w1 ≡ 4 = search rules in
    let h2 : length w.w2 ≡ 4 = search rules in
    let h3 : length w.w3 ≡ 4 = search rules in
    first_four (replicate 64 0) c.put_sums.new.sums c.put_sums-2.new.sums c.put_sums-3.new.sums c.put_sums-4.new.sums w.w0 w.w1 w.w2 w.w3
    refl c.put_sums.array_long c.put_sums-2.array_long c.put_sums-3.array_long h0 h1 h2 h3
    c.put_sums.ensures c.put_sums-2.ensures c.put_sums-3.ensures c.put_sums-4.ensures
