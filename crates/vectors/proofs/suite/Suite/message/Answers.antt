use Rattle.vectors.proofs.suite.Suite.message.Goals as goal

pub returns-in-Sha256 : goal.returns-in-Sha256
returns-in-Sha256 c = rw c.in-Sha256.is c.written.ensures
