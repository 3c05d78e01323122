-- A list carried out on sound devices, entry by entry: a call of which nothing is wanting is accepted.
use Rattle.std.proofs.Common.{◌≡◌, ℕ, true, false, cond, Option, Some, List, [], ◌∷◌, ◌++◌, length, map, Result, Ok, Err, MatchOption, refl, sym, ap, ◌∙◌, subst, true≢false}
use Rattle.std.specs.Prelude.{slice_index_or}
use Rattle.volume.specs.declared.entry.Call.{Call}
use Rattle.volume.specs.declared.entry.Entry.{Entry}
use Rattle.volume.specs.declared.refusal.Refusal.{Refusal}
use Rattle.volume.specs.declared.slip.Slip.{Slip}
use Rattle.volume.specs.Ledger.{Ledger, NoLeave, accepted, afresh, changed, counts, fed, feed, is_leave}
use Rattle.volume.specs.Promise.{FromSound, Right, asks, right}
use Rattle.volume.specs.Refusals.{told}
use Rattle.volume.specs.Replay.{Carried, Entries, LeftOut, call_of, made_as, moved}
use Rattle.volume.specs.Story as story
use Rattle.volume.specs.Story.{Made, Run, State, Step, Then, begins, keeps, leaves, opens, reads, shuts, writes}
use Rattle.volume.specs.View.{Base, view}
use Rattle.volume.proofs.Counted.{story_on}
use Rattle.volume.proofs.Outcomes.{Lawful}
use Rattle.volume.proofs.Promised.{promise}
use Rattle.trial.specs.Lists.{asked}

-- the ledger of a story with one call more
pub fed_more : (l : Ledger) (ms : List Made) (m : Made) → fed l (ms ++ m ∷ []) ≡ feed (fed l ms) m
fed_more l [] m = refl
fed_more l (x ∷ ms) m = fed_more (feed l x) ms m

-- the last call of a story gave what the ledger has
pub right_last : (l : Ledger) (ms : List Made) (m : Made) → Right l (ms ++ m ∷ []) → right (fed l ms) m m.call
right_last l [] m all = all.0
right_last l (x ∷ ms) m all = right_last (feed l x) ms m all.1

no_leave_more : (ms : List Made) (m : Made) → NoLeave ms → cond (is_leave m.call) (accepted m.answer) false ≡ false → NoLeave (ms ++ m ∷ [])
no_leave_more [] m none this = (this, tt)
no_leave_more (x ∷ ms) m none this = (none.0, no_leave_more ms m none.1 this)

-- an accepted call changes the ledger
ok_counts : (c : story.Call) → counts (Ok tt) c ≡ true
ok_counts opens = refl
ok_counts begins = refl
ok_counts (reads n) = refl
ok_counts (writes slip n) = refl
ok_counts (keeps slip) = refl
ok_counts (leaves slip) = refl
ok_counts shuts = refl

ok_told : (answer : Result Unit Refusal) → accepted (told answer) ≡ true → answer ≡ Ok tt
ok_told (Ok done) is = refl
ok_told (Err e) is = absurd (true≢false (sym is))

-- the first entry of a list that asks for these calls
pub record First (es : List Entry) (c : Call) (block : List ℕ) (long : ℕ) (calls : List (Call × List ℕ × ℕ)) : Type 0 where
  pub entry : Entry
  pub others : List Entry
  pub is : es ≡ entry ∷ others
  pub call : entry.call ≡ c
  pub area : entry.block.items ≡ block
  pub log : length entry.log.items ≡ long
  pub asks : map asked others ≡ calls

pub first_of_list : (es : List Entry) (c : Call) (block : List ℕ) (long : ℕ) (calls : List (Call × List ℕ × ℕ)) → map asked es ≡ (c, block, long) ∷ calls
    → First es c block long calls
first_of_list [] c block long calls is = absurd (cc)
first_of_list (e ∷ es) c block long calls is =
    let one : asked e ≡ (c, block, long) = cc in
    record { entry = e; others = es; is = refl; call = ap (λ a. a.0) one; area = ap (λ a. a.1) one; log = ap (λ a. a.2) one; asks = cc }

module _ {D T H : Type 0} (b : Base D T H) where
  -- a story on sound devices, from a start with these contents, leads here, and its ledger is this
  pub record Led (w : State D T H) (contents : List (List ℕ)) (l : Ledger) (v : State D T H) : Type 0 where
    pub ms : List Made
    pub from : FromSound b w contents ms v
    pub is : fed (afresh contents) ms ≡ l

  -- these entries are still ahead, from here on, and will be carried out
  pub record Ahead (number : ℕ) (v : State D T H) (pl : List (Option Slip)) (es es' : List Entry) (pl' : List (Option Slip)) (w' : State D T H) : Type 0 where
    pub made : List Made
    pub run : Run b v made w'
    pub entries : Entries number pl es es' made pl'

  module _ (w : State D T H) (contents : List (List ℕ)) (l : Ledger) (number : ℕ) (pl : List (Option Slip)) (call : story.Call) (pl' : List (Option Slip))
      (w' : State D T H)
    where
      -- the entry was carried out, and its call accepted; the others are still ahead
      pub record One (e : Entry) (es es' : List Entry) : Type 0 where
        pub entry : Entry
        pub others : List Entry
        pub is : es' ≡ entry ∷ others
        pub same_call : entry.call ≡ e.call
        pub answered : entry.answer ≡ Some (Ok tt)
        pub gave : (n : ℕ) → call ≡ reads n → entry.block.items ≡ slice_index_or l.contents n []
        pub between : State D T H
        pub led : Led w contents (changed l e.block.items call) between
        pub ahead : Ahead number between (moved number pl (Ok tt) e.call) es others pl' w'

      -- so for the first of a list that asks for this call and then for these
      pub record Next (c : Call) (block : List ℕ) (calls : List (Call × List ℕ × ℕ)) (es' : List Entry) : Type 0 where
        pub entry : Entry
        pub others : List Entry
        pub is : es' ≡ entry ∷ others
        pub same_call : entry.call ≡ c
        pub answered : entry.answer ≡ Some (Ok tt)
        pub gave : (n : ℕ) → call ≡ reads n → entry.block.items ≡ slice_index_or l.contents n []
        pub between : State D T H
        pub led : Led w contents (changed l block call) between
        pub rest : List Entry
        pub asks : map asked rest ≡ calls
        pub ahead : Ahead number between (moved number pl (Ok tt) c) rest others pl' w'

module _ {D T H : Type 0} (b : Base D T H) (lawful : Lawful b) where
  -- a story on sound devices goes on by a call that is no leave
  from_more : (w v u : State D T H) (contents : List (List ℕ)) (ms : List Made) (m : Made) → FromSound b w contents ms v → Step b v m u → is_leave m.call ≡ false
      → FromSound b w contents (ms ++ m ∷ []) u
  from_more w v u contents ms m from step stays =
      record {
        from = record { start = from.from.start; story = story_on b lawful w v u ms m from.from.story step };
        sound = from.sound;
        no_leave = no_leave_more ms m from.no_leave (ap (λ x. cond x (accepted m.answer) false) stays);
      }

  module _ (w v w' : State D T H) (contents : List (List ℕ)) (l : Ledger) (number : ℕ) (pl pl' : List (Option Slip)) (call : story.Call) (led : Led b w contents l v)
      (stays : is_leave call ≡ false)
    where
      -- one entry more
      pub one_made : (e : Entry) (es es' : List Entry) → Ahead b number v pl (e ∷ es) es' pl' w' → call_of pl e.call ≡ Some call
          → ((m : Made) → m.block ≡ e.block.items → m.log ≡ e.log.items → asks (view b v.volume) l m call) → One b w contents l number pl call pl' w' e es es'
      one_made e es [] ahead there ask = absurd ahead.entries
      one_made e es (e' ∷ es') ahead there ask =
          let c : Carried number pl call e e' ahead.made (λ between rest. Entries number between es es' rest pl') =
          subst
          (λ o. MatchOption o (LeftOut e e' × Entries number pl es es' ahead.made pl')
          (λ x. Carried number pl x e e' ahead.made (λ between rest. Entries number between es es' rest pl')))
          there ahead.entries in
          let m : Made = made_as call e e' c.answer in
          let s : Then b v m (λ between. Run b between c.rest w') = subst (λ ms. Run b v ms w') c.is ahead.run in
          let asked_so : asks (view b v.volume) (fed (afresh contents) led.ms) m call = subst (λ x. asks (view b v.volume) x m call) (sym led.is) (ask m refl refl) in
          let good : accepted m.answer ≡ true = (promise b lawful).goes_if_sound w v s.between contents led.ms m led.from s.step asked_so in
          let ok : c.answer ≡ Ok tt = ok_told c.answer good in
          let from : FromSound b w contents (led.ms ++ m ∷ []) s.between = from_more w v s.between contents led.ms m led.from s.step stays in
          let given : right (fed (afresh contents) led.ms) m call =
          right_last (afresh contents) led.ms m ((promise b lawful).right_if_sound w s.between contents (led.ms ++ m ∷ []) from).reads in
          record {
            entry = e';
            others = es';
            is = refl;
            same_call = c.entered.same_call;
            answered = c.entered.answered ∙ ap Some ok;
            gave = λ n is. subst (λ x. right (fed (afresh contents) led.ms) m x) is given good ∙ ap (λ x. slice_index_or x.contents n []) led.is;
            between = s.between;
            led =
                record {
                  ms = led.ms ++ m ∷ [];
                  from = from;
                  is =
                      fed_more (afresh contents) led.ms m ∙ ap (λ x. feed x m) led.is
                      ∙ ap (λ a. cond (counts (told a) call) (changed l e.block.items call) l) ok ∙ ap (λ x. cond x (changed l e.block.items call) l) (ok_counts call);
                };
            ahead = record { made = c.rest; run = s.others; entries = subst (λ a. Entries number (moved number pl a e.call) es es' c.rest pl') ok c.others };
          }

      -- and the first of a list that asks for this call and then for these
      pub next : (c : Call) (block : List ℕ) (long : ℕ) (calls : List (Call × List ℕ × ℕ)) (es es' : List Entry) → map asked es ≡ (c, block, long) ∷ calls
          → Ahead b number v pl es es' pl' w' → call_of pl c ≡ Some call → ((m : Made) → m.block ≡ block → length m.log ≡ long → asks (view b v.volume) l m call)
          → Next b w contents l number pl call pl' w' c block calls es'
      next c block long calls es es' is ahead there ask =
          let f = first_of_list es c block long calls is in
          let o =
          one_made f.entry f.others es' (subst (λ x. Ahead b number v pl x es' pl' w') f.is ahead) (ap (call_of pl) f.call ∙ there)
          (λ m area log. ask m (area ∙ f.area) (ap length log ∙ f.log)) in
          record {
            entry = o.entry;
            others = o.others;
            is = o.is;
            same_call = o.same_call ∙ f.call;
            answered = o.answered;
            gave = o.gave;
            between = o.between;
            led = subst (λ x. Led b w contents (changed l x call) o.between) f.area o.led;
            rest = f.others;
            asks = f.asks;
            ahead = subst (λ x. Ahead b number o.between (moved number pl (Ok tt) x) f.others o.others pl' w') f.call o.ahead;
          }

  -- where no entry is ahead, things are as they are
  pub none_ahead : {number : ℕ} {v w' : State D T H} {pl pl' : List (Option Slip)} {es es' : List Entry} → map asked es ≡ [] → Ahead b number v pl es es' pl' w'
      → (es' ≡ []) × (w' ≡ v)
  none_ahead {v = v} {w' = w'} {es = []} {es' = []} is ahead = (refl, subst (λ ms. Run b v ms w') ahead.entries.0 ahead.run)
  none_ahead {es = []} {es' = e' ∷ es'} is ahead = absurd ahead.entries
  none_ahead {es = e ∷ es} is ahead = absurd (cc)
