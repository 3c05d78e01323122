-- A trial on a good volume goes through: what the lists came to is a trial of which every call was accepted.
use Rattle.std.proofs.Common.{◌≡◌, ℕ, suc, ◌-◌, ◌≤◌, false, Option, None, Some, List, [], ◌∷◌, ◌++◌, length, map, drop, replicate, Result, Ok, refl, sym, ap, ◌∙◌, subst, true≢false, arith}
use Rattle.std.specs.List.{All}
use Rattle.std.proofs.lemmas.List.{length-replicate}
use Rattle.std.proofs.lemmas.List.Elements.{All-append, All-replicate}
use Rattle.tree.specs.Layout.{root_of, zero_block}
use Rattle.volume.specs.declared.entry.Call.{Call}
use Rattle.volume.specs.declared.entry.Call.TheVariants.{Read}
use Rattle.volume.specs.declared.entry.Entry.{Entry}
use Rattle.volume.specs.declared.register.Register.{Register}
use Rattle.volume.specs.declared.slip.Slip.{Slip}
use Rattle.volume.specs.declared.volume.Volume.{Volume}
use Rattle.volume.specs.Calls.{FormatStep}
use Rattle.volume.specs.Parts.{Holds}
use Rattle.volume.specs.Ledger.{Ledger, afresh, fed}
use Rattle.volume.specs.Promise.{Counts, Follows, slip_is_out}
use Rattle.volume.specs.Refusals.{Reason}
use Rattle.volume.specs.Replay.{Balance, Replayed}
use Rattle.volume.specs.Slips.{slip_at}
use Rattle.volume.specs.Story.{State, state}
use Rattle.volume.specs.View.{Base, View, view}
use Rattle.volume.proofs.Outcomes.{Lawful}
use Rattle.volume.proofs.Promised.{promise}
use Rattle.volume.proofs.Starts.{format_starts, sound_format}
use Rattle.trial.specs.Good.{GoodVolume, filled}
use Rattle.trial.specs.Lists.{AreasWhole, asked, blocks_read, read_list, whole_area, with_block, write_list}
use Rattle.trial.specs.Played.{CarriedOut, Trial}
use Rattle.trial.proofs.Accepted.{WholeTrial, filled_with, trial_accepted}
use Rattle.trial.proofs.Led.{Led}
use Rattle.trial.proofs.Listed.{Went, writes_accepted}
use Rattle.trial.proofs.Slips.{left_over}

-- reads that gave whole blocks have whole areas
pub areas_whole : (es : List Entry) → All (λ x. length x ≡ 512) (blocks_read es) → AreasWhole es
areas_whole [] all = tt
areas_whole (e ∷ es) all = (on e.call all, areas_whole es (rest e.call all))
  where
    on : (c : Call) → All (λ x. length x ≡ 512) (with_block c e.block.items (blocks_read es)) → whole_area c e.block.items
    on (Read n) all = all 0 [] (omega arith)
    on _ all = tt

    rest : (c : Call) → All (λ x. length x ≡ 512) (with_block c e.block.items (blocks_read es)) → All (λ x. length x ≡ 512) (blocks_read es)
    rest (Read n) all = λ k d h. all (suc k) d (omega (arith, h))
    rest _ all = all

-- no slip is left over where none is out
none_over : (v v' : View) (places : List (Option Slip)) → Balance v (None ∷ []) places v' → slip_is_out v'.present ≡ false → slip_at places 0 ≡ None
none_over v v' places balance none =
    on (slip_at places 0) refl
  where
    on : (o : Option Slip) → slip_at places 0 ≡ o → slip_at places 0 ≡ None
    on None is = is
    on (Some s) is =
        let t = left_over v v' s places is balance in absurd (true≢false (sym t.out ∙ sym (ap slip_is_out t.present) ∙ none))

module _ {D T H : Type 0} (b : Base D T H) (lawful : Lawful b) where
  -- what a trial comes to
  pub record Through (s : Volume D T H) (sims : List (List ℕ)) (n : ℕ) (fs' : List Entry) (end : State D T H) : Type 0 where
    pub trial : Trial b s.number s.hash sims n (blocks_read fs') end.register
    pub gave : blocks_read fs' ≡ filled sims n
    pub entered : Holds end.register n b.hash.KIND (root_of (b.hash.image s.hash) (filled sims n))
    pub whole : AreasWhole fs'

  filled_whole : (sims : List (List ℕ)) (n : ℕ) → All (λ x. length x ≡ 512) sims → All (λ x. length x ≡ 512) (filled sims n)
  unfolding zero_block
  filled_whole sims n whole =
      All-append (λ x. length x ≡ 512) sims (replicate (n - length sims) zero_block) whole (All-replicate (λ x. length x ≡ 512) (n - length sims) zero_block (length-replicate {A = ℕ} 512 0))

  module _ (s : Volume D T H) (n : ℕ) (good : GoodVolume (view b s) n) where
    -- the format is accepted
    pub format_goes : (s1 : Volume D T H) (r r1 : Register) (answer : Result Unit Reason) → FormatStep b s r answer s1 r1 → answer ≡ Ok tt
    format_goes s1 r r1 answer step = (sound_format b lawful s s1 r r1 answer step good.formattable good.sound).0

    module _ (s1 : Volume D T H) (r r1 : Register) (answer : Result Unit Reason) (format : FormatStep b s r answer s1 r1) (sims : List (List ℕ)) (few : length sims ≤ n) (whole : All (λ x. length x ≡ 512) sims)
        (es es' fs fs' : List Entry) (w1 w2 : State D T H) (puts : map asked es ≡ write_list sims) (gets : map asked fs ≡ read_list n)
        (c1 : CarriedOut b (state s1 r1) es es' w1) (c2 : CarriedOut b w1 fs fs' w2)
      where
        -- where a story has led to a ledger with no slip out, a list leaves none over
        ended : (w : State D T H) (contents : List (List ℕ)) (l : Ledger) (es es' : List Entry) (v v' : State D T H) → (c : CarriedOut b v es es' v') → Led b w contents l c.between → l.slip_out ≡ false → v' ≡ c.between
        ended w contents l es es' v v' c led none =
            let f : Follows (fed (afresh contents) led.ms) (view b c.between.volume) = (promise b lawful).follows w c.between contents led.ms led.from.from in
            c.none_left (none_over (view b v.volume) (view b c.between.volume) c.places c.balance (f.slip_alike ∙ ap (λ x. x.slip_out) led.is ∙ none))

        abbrev count : ℕ
        count = (view b s).store.blocks

        went : Went b (state s1 r1) (replicate (view b s).store.blocks zero_block) (afresh (sims ++ drop (length sims) (replicate (view b s).store.blocks zero_block))) es' c1.between
        went =
            let zeros = replicate count zero_block in
            let size : length zeros ≡ count = length-replicate count zero_block in
            let accepted = sound_format b lawful s s1 r r1 answer format good.formattable good.sound in
            let begun = format_starts b lawful s s1 r r1 answer format accepted.0 in
            writes_accepted b lawful (state s1 r1) zeros c1.between sims c1.places es es' begun.0 (subst (Counts (view b s1)) (sym size) begun.1) accepted.1 (omega (arith, few, good.count, size)) whole puts c1.replayed

        first_ended : w1 ≡ c1.between
        first_ended =
            ended (state s1 r1) (replicate count zero_block) (afresh (sims ++ drop (length sims) (replicate count zero_block))) es es' (state s1 r1) w1 c1 went.led refl

        written : Replayed b (state s1 r1) (None ∷ []) es es' c1.places w1
        written = subst (Replayed b (state s1 r1) (None ∷ []) es es' c1.places) (sym first_ended) c1.replayed

        all : WholeTrial b s answer (state s1 r1) sims es' fs' w1 c2.between
        all =
            trial_accepted b lawful s s1 r r1 answer sims es es' fs fs' c1.places c2.places w1 c2.between format good.formattable good.sound (omega (arith, few, good.count)) whole puts written
            (subst (λ k. map asked fs ≡ read_list k) (sym good.count) gets) c2.replayed

        second_ended : w2 ≡ c2.between
        second_ended = ended (state s1 r1) (replicate count zero_block) (afresh (filled_with count sims)) fs fs' w1 w2 c2 all.led_on refl

        read_on : Replayed b w1 (None ∷ []) fs fs' c2.places w2
        read_on = subst (Replayed b w1 (None ∷ []) fs fs' c2.places) (sym second_ended) c2.replayed

        -- the lists are a trial, of which every call was accepted
        pub goes_through : Through s sims n fs' w2
        goes_through =
            let gave : blocks_read fs' ≡ filled sims n = all.gave ∙ ap (filled sims) good.count in
            let held : Holds w2.register n b.hash.KIND (root_of (b.hash.image s.hash) (filled sims n)) =
            subst (λ k. Holds w2.register k b.hash.KIND (root_of (b.hash.image s.hash) (filled sims k))) good.count
            (subst (λ u. Holds u.register count b.hash.KIND (root_of (b.hash.image s.hash) (filled sims count))) (sym second_ended) all.register) in
            record {
              trial =
                  record {
                    volume = s;
                    numbered = refl;
                    under = refl;
                    closed = good.formattable.closed;
                    before = r;
                    start = state s1 r1;
                    format = subst (λ a. FormatStep b s r a s1 r1) (format_goes s1 r r1 answer format) format;
                    written = es';
                    between = w1;
                    writes = record { es = es; asks = puts; left = c1.places; replayed = written; accepted = all.writes };
                    answered = fs';
                    end = w2;
                    reads = record { es = fs; asks = gets; left = c2.places; replayed = read_on; accepted = all.reads };
                    gave = refl;
                    entered = refl;
                  };
              gave = gave;
              entered = held;
              whole = areas_whole fs' (subst (All (λ x. length x ≡ 512)) (sym gave) (filled_whole sims n whole));
            }
