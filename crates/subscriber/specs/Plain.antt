-- What the code reads from a line, in plain numbers.
use Rattle.subscriber.specs.Items.{Entry, Said, nothing, tray_is, hash_is, blocks_are, sim_is}
use Rattle.subscriber.specs.declared.item.Item.{Item}
use Rattle.subscriber.specs.declared.item.Item.TheVariants as item
use Rattle.sim.specs.declared.Sim.{Sim}

-- a SIM as a sheet has it
abbrev pub entry_of : Sim → Entry
entry_of s = (s.identity.digits, s.key, s.sequence.value)

-- what a line says
abbrev pub plain : Item → Said
plain item.Nothing = nothing
plain (item.Tray t) = tray_is t.value
plain (item.Hash h) = hash_is h
plain (item.Blocks b) = blocks_are b.value
plain (item.Sim s) = sim_is (entry_of s)
