use Rattle.volume.proofs.Promised.{looks}
use Rattle.volume.proofs.look.look.Goals as goal

pub returns-in_err-geometry-clause-exactly : goal.returns-in_err-geometry-clause-exactly
returns-in_err-geometry-clause-exactly g c =
    looks g.S.Source g.U.Source (g.H.Hash.image c.args.hash.now) g.H.Hash.KIND g.met.S.Source.keeps g.met.U.Source.keeps (λ block. (g.met.H.Hash.cell c.args.hash.now block).long)

pub returns-in_err-check_areas-clause-exactly : goal.returns-in_err-check_areas-clause-exactly
returns-in_err-check_areas-clause-exactly g c =
    looks g.S.Source g.U.Source (g.H.Hash.image c.args.hash.now) g.H.Hash.KIND g.met.S.Source.keeps g.met.U.Source.keeps (λ block. (g.met.H.Hash.cell c.args.hash.now block).long)

pub returns-clause-exactly : goal.returns-clause-exactly
returns-clause-exactly g c =
    looks g.S.Source g.U.Source (g.H.Hash.image c.args.hash.now) g.H.Hash.KIND g.met.S.Source.keeps g.met.U.Source.keeps (λ block. (g.met.H.Hash.cell c.args.hash.now block).long)
