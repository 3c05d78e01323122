-- What each call of the volume looks at first, in this order, before it does anything. A refusal is told by its number.
use Rattle.std.specs.Prelude.{ℕ, ◌&&◌, Bool, cond, nat_eq, nat_lt, Option, Some, None, Result, Ok, Err}
use Rattle.geometry.specs.Geometry.{total}
use Rattle.volume.specs.Refusals.{Reason, plain}
use Rattle.volume.specs.View.{Open}

-- a check that must hold, or else this refusal; then the others
abbrev pub need : {A : Type 0} → Bool → ℕ → Result A Reason → Result A Reason
need holds number others = cond holds others (Err (plain number))

-- a check that must not hold
abbrev pub unless : {A : Type 0} → Bool → ℕ → Result A Reason → Result A Reason
unless fails number others = cond fails (Err (plain number)) others

-- the volume is open: what is then looked at
abbrev pub when_open : {A : Type 0} → Option Open → (Open → Result A Reason) → Result A Reason
when_open None others = Err (plain 40)
when_open (Some p) others = others p

abbrev pub when_closed : {A : Type 0} → Option Open → Result A Reason → Result A Reason
when_closed None others = others
when_closed (Some p) others = Err (plain 41)

-- one check, and where it passes another
abbrev pub next : {A : Type 0} → Result Unit Reason → Result A Reason → Result A Reason
next (Ok passed) others = others
next (Err e) others = Err e

-- checks that give what the next ones look at
abbrev pub after : {A : Type 0} → Result Open Reason → (Open → Result A Reason) → Result A Reason
after (Ok p) others = others p
after (Err e) others = Err e

-- the areas of a call: one for a block, one for the record; then the block number
abbrev pub areas_check : ℕ → ℕ → ℕ → ℕ → Result Unit Reason
areas_check blocks n block_length log_length =
    need (nat_eq block_length 512) 11 (need (nat_eq log_length 2048) 12 (need (nat_lt n blocks) 10 (Ok tt)))

abbrev pub begin_check : Option Open → Result Open Reason
begin_check present = when_open present (λ p. unless p.slip_out 42 (Ok p))

abbrev pub shut_check : Option Open → Result Open Reason
shut_check present = begin_check present

abbrev pub read_check : Option Open → ℕ → ℕ → ℕ → Result Open Reason
read_check present n block_length log_length = when_open present (λ p. next (areas_check p.blocks n block_length log_length) (Ok p))

-- the slip has the volume's number, and one is out
abbrev pub slip_check : Option Open → ℕ → ℕ → Result Open Reason
slip_check present number slip = when_open present (λ p. need (p.slip_out && nat_eq slip number) 43 (Ok p))

abbrev pub write_check : Option Open → ℕ → ℕ → ℕ → ℕ → ℕ → Result Open Reason
write_check present number slip n block_length log_length =
    after (slip_check present number slip) (λ p. next (areas_check p.blocks n block_length log_length) (Ok p))

-- the register was formatted, under this kind, and the devices have the counts that it asks for
abbrev pub register_check : ℕ → ℕ → ℕ → ℕ → ℕ → Result Unit Reason
register_check blocks kind hash_kind store_blocks tree_blocks =
    need (nat_lt 0 blocks) 22
    (need (nat_eq kind hash_kind) 24 (need (nat_eq store_blocks blocks) 23 (unless (nat_lt tree_blocks (total blocks)) 21 (Ok tt))))

abbrev pub open_check : Option Open → ℕ → ℕ → ℕ → ℕ → ℕ → Result Unit Reason
open_check present blocks kind hash_kind store_blocks tree_blocks = when_closed present (register_check blocks kind hash_kind store_blocks tree_blocks)

-- the devices have counts that may be formatted: 1 to 4096 data blocks, and room for their tree
abbrev pub counts_check : ℕ → ℕ → Result Unit Reason
counts_check store_blocks tree_blocks =
    need (nat_lt 0 store_blocks && nat_lt store_blocks 4097) 20 (unless (nat_lt tree_blocks (total store_blocks)) 21 (Ok tt))

abbrev pub format_check : Option Open → ℕ → ℕ → Result Unit Reason
format_check present store_blocks tree_blocks = when_closed present (counts_check store_blocks tree_blocks)

-- look has no volume: it looks at the register, then at the areas and the number
abbrev pub look_check : ℕ → ℕ → ℕ → ℕ → ℕ → ℕ → ℕ → ℕ → Result Unit Reason
look_check blocks kind hash_kind store_blocks tree_blocks n block_length log_length =
    next (register_check blocks kind hash_kind store_blocks tree_blocks) (areas_check blocks n block_length log_length)
