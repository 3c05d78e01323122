-- A SIM as a block of 512 bytes.
use Rattle.std.specs.Prelude.{ℕ, zero, suc, ◌/◌, ◌%◌, List, [], ◌∷◌, ◌++◌, replicate}
use Rattle.sim.specs.declared.Sim.{Sim}

-- a number in so many bytes, the lowest first (what SipHash calls `bytes`; neither crate stands on the other)
abbrev pub little_endian : ℕ → ℕ → List ℕ
little_endian zero n = []
little_endian (suc k) n = n % 256 ∷ little_endian k (n / 256)

-- bytes 0 to 19 the identity, 20 to 23 the key index, 24 to 31 the sequence number
unfoldable pub sim_head : Sim → List ℕ
sim_head s = s.identity.digits ++ (little_endian 4 s.key ++ little_endian 8 s.sequence.value)

-- and zeros from byte 32 on
unfoldable pub sim_block : Sim → List ℕ
sim_block s = sim_head s ++ replicate 480 0
