-- A trial on sound devices that may be formatted: every call of its lists is accepted, and what is read is what was put in.
use Rattle.std.proofs.Common.{◌≡◌, ℕ, ◌-◌, ◌≤◌, All, Option, None, List, [], ◌∷◌, ◌++◌, length, map, replicate, Result, Ok, sym, ap, ◌∙◌, subst, length-append, arith}
use Rattle.std.proofs.lemmas.List.{drop-replicate, length-replicate}
use Rattle.tree.specs.Layout.{root_of, zero_block}
use Rattle.volume.specs.declared.entry.Entry.{Entry}
use Rattle.volume.specs.declared.register.Register.{Register}
use Rattle.volume.specs.declared.slip.Slip.{Slip}
use Rattle.volume.specs.declared.volume.Volume.{Volume}
use Rattle.volume.specs.Calls.{FormatStep}
use Rattle.volume.specs.Ledger.{afresh}
use Rattle.volume.specs.Parts.{Holds}
use Rattle.volume.specs.Promise.{AreSound, Counts, Formattable}
use Rattle.volume.specs.Refusals.{Reason}
use Rattle.volume.specs.Replay.{Replayed}
use Rattle.volume.specs.Story.{State, state}
use Rattle.volume.specs.View.{Base, open_of, view}
use Rattle.volume.proofs.Decided.{format_pass}
use Rattle.volume.proofs.Outcomes.{Lawful}
use Rattle.volume.proofs.Starts.{format_starts, sound_format}
use Rattle.trial.specs.Lists.{AllAccepted, asked, blocks_read, read_list, write_list}
use Rattle.trial.proofs.Led.{Led}
use Rattle.trial.proofs.Listed.{led_register, reads_accepted, writes_accepted}

-- the blocks of a volume of so many, after these were put in from block 0 on
abbrev pub filled_with : ℕ → List (List ℕ) → List (List ℕ)
filled_with blocks sims = sims ++ replicate (blocks - length sims) zero_block

module _ {D T H : Type 0} (b : Base D T H) where
  -- a format, a list that puts blocks in, and one that reads all: every call was accepted
  pub record WholeTrial (s : Volume D T H) (answer : Result Unit Reason) (w : State D T H) (sims : List (List ℕ)) (es' fs' : List Entry) (v end : State D T H) : Type 0 where
    pub formatted : answer ≡ Ok tt
    pub writes : AllAccepted es'
    pub reads : AllAccepted fs'
    pub gave : blocks_read fs' ≡ filled_with (view b s).store.blocks sims
    pub register : Holds end.register (view b s).store.blocks b.hash.KIND (root_of (view b s).image (filled_with (view b s).store.blocks sims))
    -- the story so far, after each list
    pub led : Led b w (replicate (view b s).store.blocks zero_block) (afresh (filled_with (view b s).store.blocks sims)) v
    pub led_on : Led b w (replicate (view b s).store.blocks zero_block) (afresh (filled_with (view b s).store.blocks sims)) end

module _ {D T H : Type 0} (b : Base D T H) (lawful : Lawful b) where
  -- an accepted format leaves the hash as it was
  format_image : (s s1 : Volume D T H) (r r1 : Register) (answer : Result Unit Reason) → FormatStep b s r answer s1 r1 → Formattable (view b s)
      → (view b s1).image ≡ (view b s).image
  format_image s s1 r r1 answer step may =
      let passed =
      format_pass (open_of s.present) (b.store.meaning s.store).blocks (b.tree.meaning s.tree).blocks may.closed
      (record { least = may.least; most = may.most; tree_count = may.tree }) in
      ap (λ u. b.hash.image u.hash) (step.goes_on tt passed).after.others

  -- on sound devices that may be formatted it goes so
  pub trial_accepted : (s s1 : Volume D T H) (r r1 : Register) (answer : Result Unit Reason) (sims : List (List ℕ)) (es es' fs fs' : List Entry)
      (places places' : List (Option Slip)) (v end : State D T H) → FormatStep b s r answer s1 r1 → Formattable (view b s) → AreSound (view b s)
      → length sims ≤ (view b s).store.blocks → All (λ x. length x ≡ 512) sims → map asked es ≡ write_list sims → Replayed b (state s1 r1) (None ∷ []) es es' places v
      → map asked fs ≡ read_list (view b s).store.blocks → Replayed b v (None ∷ []) fs fs' places' end → WholeTrial b s answer (state s1 r1) sims es' fs' v end
  trial_accepted s s1 r r1 answer sims es es' fs fs' places places' v end step may sound fits whole puts written gets read =
      let n : ℕ = (view b s).store.blocks in
      let w : State D T H = state s1 r1 in
      let zeros : List (List ℕ) = replicate n zero_block in
      let filled : List (List ℕ) = filled_with n sims in
      let size : length zeros ≡ n = length-replicate n zero_block in
      let long : n ≡ length filled =
      omega (arith, fits, length-append sims (replicate (n - length sims) zero_block), length-replicate (n - length sims) zero_block) in
      let good = sound_format b lawful s s1 r r1 answer step may sound in
      let begun = format_starts b lawful s s1 r r1 answer step good.0 in
      let put =
      writes_accepted b lawful w zeros v sims places es es' begun.0 (subst (Counts (view b s1)) (sym size) begun.1) good.1 (omega (arith, fits, size)) whole puts
      written in
      let led : Led b w zeros (afresh filled) v = subst (λ l. Led b w zeros (afresh (sims ++ l)) v) (drop-replicate (length sims) n zero_block) put.led in
      let got =
      reads_accepted b lawful w zeros end filled v places' fs fs' (subst (Counts (view b s1)) long begun.1) led
      (subst (λ k. map asked fs ≡ read_list k) long gets) read in
      let held : Holds end.register (length zeros) b.hash.KIND (root_of (view b s1).image filled) = led_register b lawful w zeros got.went.led in
      record {
        formatted = good.0;
        writes = put.accepted;
        reads = got.went.accepted;
        gave = got.gave;
        register =
            record { blocks = held.blocks ∙ size; kind = held.kind; root = held.root ∙ ap (λ i. root_of i filled) (format_image s s1 r r1 answer step may) };
        led = led;
        led_on = got.went.led;
      }
