-- A SIM is what its block says: the fields of a block, and SIMs with the same fields.
use Rattle.std.proofs.Common.{◌≡◌, ℕ, ◌+◌, ◌*◌, ◌^◌, ◌<◌, true, List, ◌++◌, get_or, take, drop, replicate, sym, refl, ap, ◌∙◌, arith}
use mathlib.Core.Bool.{Bool-set}
use mathlib.Core.HLevel.{is_prop→PathP}
use native.Mathlib.Bridge.{le_prop}
use Rattle.std.proofs.lemmas.List.{take_at, drop_at, append_assoc}
use Rattle.sim.specs.Identity.{is_padded}
use Rattle.sim.specs.Block.{little_endian, sim_head, sim_block}
use Rattle.sim.specs.declared.identity.Identity.{Identity}
use Rattle.sim.specs.declared.sequence.Sequence.{Sequence}
use Rattle.sim.specs.declared.Sim.{Sim}
use Rattle.sim.proofs.Padding.{padded_length}

pub same_identity : (i j : Identity) → i.digits ≡ j.digits → i ≡ j
same_identity i j e =
    λ t. record { digits = e t; ok = is_prop→PathP (λ u. is_padded (e u) ≡ true) (λ u. Bool-set _ _) i.ok j.ok t }

pub same_sequence : (p q : Sequence) → p.value ≡ q.value → p ≡ q
same_sequence p q e =
    λ t. record { value = e t; small = is_prop→PathP (λ u. e u < 2 ^ 48) (λ u. le_prop) p.small q.small t }

pub same_sim : (s t : Sim) → s.identity.digits ≡ t.identity.digits → s.key ≡ t.key → s.sequence.value ≡ t.sequence.value → s ≡ t
same_sim s t i k q =
    let a = same_identity s.identity t.identity i in
    let b = same_sequence s.sequence t.sequence q in
    λ u. record { identity = a u; key = k u; sequence = b u; narrow = is_prop→PathP (λ v. k v < 2 ^ 16) (λ v. le_prop) s.narrow t.narrow u }

-- `block` is the block of `s`
module _ (s : Sim) (block : List ℕ) (e : sim_block s ≡ block) where
  pub block_digits : take 20 block ≡ s.identity.digits
  unfolding sim_block sim_head
  block_digits =
      rw (← e, append_assoc) (take_at s.identity.digits _ 20 (padded_length _ s.identity.ok))

  block_tail : drop 20 block ≡ (little_endian 4 s.key ++ little_endian 8 s.sequence.value) ++ replicate 480 0
  unfolding sim_block sim_head
  block_tail =
      rw (← e, append_assoc s.identity.digits (little_endian 4 s.key ++ little_endian 8 s.sequence.value) (replicate 480 0)) (drop_at s.identity.digits _ 20 (padded_length _ s.identity.ok))

  -- the next four bytes, read as a number, are the key index
  pub block_key
      : (rest bytes : List ℕ)
      → rest ≡ drop 20 block
      → bytes ≡ take 4 rest
      → get_or bytes 0 0 + get_or bytes 1 0 * 256 + get_or bytes 2 0 * 65536 + get_or bytes 3 0 * 16777216 ≡ s.key
  block_key rest bytes at cut =
      let own : bytes ≡ little_endian 4 s.key = cut ∙ ap (take 4) (at ∙ block_tail) in
      rw own (omega (arith, s.narrow))

  -- and the eight after it the sequence number
  pub block_sequence
      : (rest more bytes : List ℕ)
      → rest ≡ drop 20 block
      → more ≡ drop 4 rest
      → bytes ≡ take 8 more
      → get_or bytes 0 0 + get_or bytes 1 0 * 256 + get_or bytes 2 0 * 65536 + get_or bytes 3 0 * 16777216 + get_or bytes 4 0 * 4294967296 + get_or bytes 5 0 * 1099511627776 + get_or bytes 6 0 * 281474976710656 + get_or bytes 7 0 * 72057594037927936
      ≡ s.sequence.value
  block_sequence rest more bytes at past cut =
      let own : bytes ≡ little_endian 8 s.sequence.value = cut ∙ ap (take 8) (past ∙ ap (drop 4) (at ∙ block_tail)) in
      rw own (omega (arith, s.sequence.small))

-- no two SIMs have one block: docs/SHEET.md says so, and `decode`'s contract gives it too
pub same_block : (s t : Sim) → sim_block s ≡ sim_block t → s ≡ t
same_block s t e =
    let b = sim_block t in
    same_sim s t (sym (block_digits s b e) ∙ block_digits t b refl) (sym (block_key s b e _ _ refl refl) ∙ block_key t b refl _ _ refl refl)
    (sym (block_sequence s b e _ _ _ refl refl refl) ∙ block_sequence t b refl _ _ _ refl refl refl)
