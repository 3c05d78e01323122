-- What a format comes to: accepted, it is a start, and on sound devices it is accepted.
use Rattle.std.proofs.Common.{◌≡◌, ℕ, ◌≤◌, Bool, true, false, List, replicate, Result, Ok, Err, MatchBool, IfOk, refl, sym, ap, ◌∙◌, subst, true≢false, arith}
use Rattle.std.proofs.lemmas.Bool.{and_from}
use Rattle.std.proofs.lemmas.List.{length-replicate}
use Rattle.device.specs.Meaning.{Settled, Stays}
use Rattle.geometry.specs.Geometry.{total}
use Rattle.tree.specs.Layout.{root_of, tree_of, zero_block}
use Rattle.volume.specs.declared.refusal.Refusal.{Refusal}
use Rattle.volume.specs.declared.register.Register.{Register}
use Rattle.volume.specs.declared.volume.Volume.{Volume}
use Rattle.volume.specs.Calls.{FormatStep, Formatting}
use Rattle.volume.specs.Checks.{format_check}
use Rattle.volume.specs.Parts.{Holds}
use Rattle.volume.specs.Promise.{AreContents, AreSound, Counts, Formattable, Start}
use Rattle.volume.specs.Refusals.{Reason, plain, told}
use Rattle.volume.specs.View.{Base, open_of, view}
use Rattle.volume.proofs.Decided.{format_ok, format_pass}
use Rattle.volume.proofs.Effects.{stays_more}
use Rattle.volume.proofs.Laws.{in_turn_means}
use Rattle.volume.proofs.Lies.{lie_rewritten, lie_settled}
use Rattle.volume.proofs.Meant.{Rewritten}
use Rattle.volume.proofs.Outcomes.{Lawful}
use Rattle.volume.proofs.Results.{either, ok_not_err}
use Rattle.volume.proofs.Wholes.{tree_whole, zeros_whole}

-- blocks of zeros are contents
pub zeros_contents : (n : ℕ) → 1 ≤ n → n ≤ 4096 → AreContents (replicate n zero_block)
zeros_contents n least most =
    let size = length-replicate n zero_block in
    record { least = omega (arith, size); most = omega (arith, size); whole = zeros_whole n }

module _ {D T H : Type 0} (b : Base D T H) (lawful : Lawful b) where
  module _ {s s' : Volume D T H} {r r' : Register} {answer : Result Unit Reason} (f : Formatting b s r answer s' r') where
    abbrev zeros : List (List ℕ)
    zeros = replicate (b.store.meaning s.store).blocks zero_block

    data_written : Rewritten (b.store.meaning s.store) zeros (b.store.meaning f.zeros_store)
    data_written = in_turn_means b.store b.store_device lawful.store.writes zeros s.store f.zeros_store (zeros_whole (b.store.meaning s.store).blocks) f.written_store

    tree_written : Rewritten (b.tree.meaning s.tree) (tree_of (b.hash.image s.hash) zeros) (b.tree.meaning f.zeros_tree)
    tree_written =
        in_turn_means b.tree b.tree_device lawful.tree.writes (tree_of (b.hash.image s.hash) zeros) s.tree f.zeros_tree (tree_whole (b.hash.image s.hash) (lawful.wide s.hash) zeros) f.written_tree

    data_settled : Settled (b.store.meaning f.zeros_store) f.settled.clear_store (b.store.meaning s'.store)
    data_settled = lawful.store.writes.settled f.settled.step_store

    tree_settled : Settled (b.tree.meaning f.zeros_tree) f.settled.clear_tree (b.tree.meaning s'.tree)
    tree_settled = lawful.tree.writes.settled f.settled.step_tree

    data_stays : Stays (b.store.meaning s.store) (b.store.meaning s'.store)
    data_stays = stays_more data_written.stays data_settled.stays

    tree_stays : Stays (b.tree.meaning s.tree) (b.tree.meaning s'.tree)
    tree_stays = stays_more tree_written.stays tree_settled.stays

    accepted_end : (clear : Bool) → answer ≡ Ok tt
        → MatchBool clear ((answer ≡ Ok tt) × Holds r' (b.store.meaning s.store).blocks b.hash.KIND (root_of (b.hash.image s.hash) zeros)) ((answer ≡ Err (plain 44)) × (r' ≡ r))
        → Holds r' (b.store.meaning s.store).blocks b.hash.KIND (root_of (b.hash.image s.hash) zeros)
    accepted_end true is ended = ended.1
    accepted_end false is ended = absurd (ok_not_err tt (plain 44) (sym is ∙ ended.0))

    clear_end : (clear : Bool) → clear ≡ true
        → MatchBool clear ((answer ≡ Ok tt) × Holds r' (b.store.meaning s.store).blocks b.hash.KIND (root_of (b.hash.image s.hash) zeros)) ((answer ≡ Err (plain 44)) × (r' ≡ r)) → answer ≡ Ok tt
    clear_end true is ended = ended.0
    clear_end false is ended = absurd (true≢false (sym is))

    -- past its checks, an accepted format leaves a start
    formatted : answer ≡ Ok tt → 1 ≤ (b.store.meaning s.store).blocks → (b.store.meaning s.store).blocks ≤ 4096 → Start (view b s') r' zeros
    formatted is least most =
        let n = (b.store.meaning s.store).blocks in
        let holds = accepted_end f.clear is f.ended in
        let size = length-replicate n zero_block in
        let image : b.hash.image s'.hash ≡ b.hash.image s.hash = ap (λ v. b.hash.image v.hash) f.after.others in
        record {
          closed = f.after.present;
          are_contents = zeros_contents n least most;
          register = record { blocks = holds.blocks ∙ sym size; kind = holds.kind; root = holds.root ∙ ap (λ i. root_of i zeros) (sym image) };
          laid =
              record {
                in_store = lie_settled zeros data_settled (lie_rewritten zeros data_written);
                in_tree =
                    lie_settled (tree_of (b.hash.image s'.hash) zeros) tree_settled
                    (lie_rewritten (tree_of (b.hash.image s'.hash) zeros) (subst (λ i. Rewritten (b.tree.meaning s.tree) (tree_of i zeros) (b.tree.meaning f.zeros_tree)) (sym image) tree_written));
              };
        }

    counted : total (b.store.meaning s.store).blocks ≤ (b.tree.meaning s.tree).blocks → Counts (view b s') (b.store.meaning s.store).blocks
    counted enough = record { store = data_stays.blocks; tree = subst (λ k. total (b.store.meaning s.store).blocks ≤ k) (sym tree_stays.blocks) enough }

    -- on sound devices it is accepted
    sound_formatted : AreSound (view b s) → (answer ≡ Ok tt) × AreSound (view b s')
    sound_formatted sound = (
      clear_end f.clear
          (f.settled.told
          ∙ and_from f.settled.clear_store f.settled.clear_tree (data_settled.told ∙ data_settled.sound_is_clear (data_written.stays.sound sound.0)) (tree_settled.told ∙ tree_settled.sound_is_clear (tree_written.stays.sound sound.1)))
          f.ended,
      (data_stays.sound sound.0, tree_stays.sound sound.1),
    )

  -- every accepted format leaves a start
  pub format_starts : (s s' : Volume D T H) (r r' : Register) (answer : Result Unit Reason) → FormatStep b s r answer s' r' → answer ≡ Ok tt
      → Start (view b s') r' (replicate (view b s).store.blocks zero_block) × Counts (view b s') (view b s).store.blocks
  format_starts s s' r r' answer step is =
      either (Start (view b s') r' (replicate (view b s).store.blocks zero_block) × Counts (view b s') (view b s).store.blocks)
      (format_check (open_of s.present) (b.store.meaning s.store).blocks (b.tree.meaning s.tree).blocks)
      (λ a passed.
      let fits = format_ok (open_of s.present) (b.store.meaning s.store).blocks (b.tree.meaning s.tree).blocks passed in
      let f = step.goes_on a passed in
      (formatted f is fits.1.least fits.1.most, counted f fits.1.tree_count))
      (λ e refused. absurd (ok_not_err tt e (sym is ∙ (step.refused e refused).0.0)))

  -- and on sound devices that may be formatted every format is accepted
  pub sound_format : (s s' : Volume D T H) (r r' : Register) (answer : Result Unit Reason) → FormatStep b s r answer s' r' → Formattable (view b s) → AreSound (view b s)
      → (answer ≡ Ok tt) × AreSound (view b s')
  sound_format s s' r r' answer step may sound =
      sound_formatted
      (step.goes_on tt (format_pass (open_of s.present) (b.store.meaning s.store).blocks (b.tree.meaning s.tree).blocks may.closed (record { least = may.least; most = may.most; tree_count = may.tree })))
      sound

  -- the same as a contract says it
  pub start_if_accepted : (s s' : Volume D T H) (r r' : Register) (answer : Result Unit Refusal) → FormatStep b s r (told answer) s' r'
      → IfOk answer (λ _. Start (view b s') r' (replicate (view b s).store.blocks zero_block))
  start_if_accepted s s' r r' (Ok done) step = (format_starts s s' r r' (Ok tt) step refl).0
  start_if_accepted s s' r r' (Err refusal) step = tt
