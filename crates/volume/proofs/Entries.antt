-- A list of calls carried out entry by entry: the calls that were made are a run.
use Rattle.std.proofs.Common.{◌≡◌, ℕ, ◌+◌, ◌<◌, Option, None, Some, Result, List, [], ◌∷◌, ◌++◌, length, get_or, take, drop, set, MatchOption, refl, sym, ap, ◌∙◌, subst, arith, length-set}
use Rattle.std.proofs.lemmas.List.{drop-drop, drop-set-lt, get_or-drop, take_all, take_more, take_more_set}
use Rattle.volume.specs.declared.entry.Entry.{Entry}
use Rattle.volume.specs.declared.slip.Slip.{Slip}
use Rattle.volume.specs.declared.refusal.Refusal.{Refusal}
use Rattle.volume.specs.Ledger.{afresh}
use Rattle.volume.specs.Replay.{Balance, Carried, Done, Entered, Entries, LeftOut, Replayed, Turn, call_of, made_as, moved, out_of}
use Rattle.volume.specs.Slips.{slips_of}
use Rattle.volume.specs.Story as story
use Rattle.volume.specs.Story.{Made, Run, State, Step}
use Rattle.volume.specs.View.{Base, view}
use Rattle.volume.proofs.Balances.{turn_balances}
use Rattle.volume.proofs.Outcomes.{Lawful, number_stays}

module _ (number : ℕ) where
  -- a list goes on by an entry that was left out
  skip_more : (pl pl1 : List (Option Slip)) (es es' : List Entry) (made : List Made) (e e' : Entry) → Entries number pl es es' made pl1 → call_of pl1 e.call ≡ None → LeftOut e e' → Entries number pl (es ++ e ∷ []) (es' ++ e' ∷ []) made pl1
  skip_more pl pl1 [] [] made e e' (nothing, same) none out =
      let at : call_of pl e.call ≡ None = subst (λ q. call_of q e.call ≡ None) same none in
      subst (λ o. MatchOption o (LeftOut e e' × Entries number pl [] [] made pl1) (λ call. Carried number pl call e e' made (λ between rest. Entries number between [] [] rest pl1))) (sym at) (out, (nothing, same))
  skip_more pl pl1 (x ∷ xs) (x' ∷ xs') made e e' goes none out =
      on (call_of pl x.call) goes (λ q rest others. skip_more q pl1 xs xs' rest e e' others none out)
    where
      on : (o : Option story.Call) → MatchOption o (LeftOut x x' × Entries number pl xs xs' made pl1) (λ call. Carried number pl call x x' made (λ between rest. Entries number between xs xs' rest pl1))
          → ((q : List (Option Slip)) (rest : List Made) → Entries number q xs xs' rest pl1 → Entries number q (xs ++ e ∷ []) (xs' ++ e' ∷ []) rest pl1)
          → MatchOption o (LeftOut x x' × Entries number pl (xs ++ e ∷ []) (xs' ++ e' ∷ []) made pl1) (λ call. Carried number pl call x x' made (λ between rest. Entries number between (xs ++ e ∷ []) (xs' ++ e' ∷ []) rest pl1))
      on None (left, others) more = (left, more pl made others)
      on (Some call) c more = record { answer = c.answer; entered = c.entered; rest = c.rest; is = c.is; others = more (moved number pl c.answer x.call) c.rest c.others }
  skip_more pl pl1 [] (x' ∷ xs') made e e' never none out = absurd never
  skip_more pl pl1 (x ∷ xs) [] made e e' never none out = absurd never

  -- and by one whose call was made
  module _ (e e' : Entry) (call : story.Call) (answer : Result Unit Refusal) (entered : Entered e e' (Some answer)) where
    carry_more : (pl pl1 : List (Option Slip)) (es es' : List Entry) (made : List Made) → Entries number pl es es' made pl1 → call_of pl1 e.call ≡ Some call
        → Entries number pl (es ++ e ∷ []) (es' ++ e' ∷ []) (made ++ made_as call e e' answer ∷ []) (moved number pl1 answer e.call)
    carry_more pl pl1 [] [] made (none, same) there =
        let at : call_of pl e.call ≡ Some call = subst (λ q. call_of q e.call ≡ Some call) same there in
        let made2 = made ++ made_as call e e' answer ∷ [] in
        let end = moved number pl1 answer e.call in
        let first : Carried number pl call e e' made2 (λ between rest. Entries number between [] [] rest end) =
        record { answer = answer; entered = entered; rest = []; is = ap (λ ms. ms ++ made_as call e e' answer ∷ []) none; others = (refl, ap (λ q. moved number q answer e.call) same) } in
        subst (λ o. MatchOption o (LeftOut e e' × Entries number pl [] [] made2 end) (λ call. Carried number pl call e e' made2 (λ between rest. Entries number between [] [] rest end))) (sym at) first
    carry_more pl pl1 (x ∷ xs) (x' ∷ xs') made goes there =
        on (call_of pl x.call) goes (λ q rest others. carry_more q pl1 xs xs' rest others there)
      where
        on : (o : Option story.Call) → MatchOption o (LeftOut x x' × Entries number pl xs xs' made pl1) (λ c. Carried number pl c x x' made (λ between rest. Entries number between xs xs' rest pl1))
            → ((q : List (Option Slip)) (rest : List Made) → Entries number q xs xs' rest pl1
            → Entries number q (xs ++ e ∷ []) (xs' ++ e' ∷ []) (rest ++ made_as call e e' answer ∷ []) (moved number pl1 answer e.call))
            → MatchOption o (LeftOut x x' × Entries number pl (xs ++ e ∷ []) (xs' ++ e' ∷ []) (made ++ made_as call e e' answer ∷ []) (moved number pl1 answer e.call))
            (λ c. Carried number pl c x x' (made ++ made_as call e e' answer ∷ []) (λ between rest. Entries number between (xs ++ e ∷ []) (xs' ++ e' ∷ []) rest (moved number pl1 answer e.call)))
        on None (left, others) more = (left, more pl made others)
        on (Some c0) c more =
            record {
              answer = c.answer;
              entered = c.entered;
              rest = c.rest ++ made_as call e e' answer ∷ [];
              is = ap (λ ms. ms ++ made_as call e e' answer ∷ []) c.is;
              others = more (moved number pl c.answer x.call) c.rest c.others;
            }
    carry_more pl pl1 [] (x' ∷ xs') made never there = absurd never
    carry_more pl pl1 (x ∷ xs) [] made never there = absurd never

module _ {D T H : Type 0} (b : Base D T H) where
  -- the first i entries of a list, as they are carried out in their places
  pub record SoFar (w : State D T H) (places : List (Option Slip)) (es now : List Entry) (i : ℕ) (pl : List (Option Slip)) (v : State D T H) : Type 0 where
    pub made : List Made
    pub run : Run b w made v
    pub entries : Entries w.volume.number places (take i es) (take i now) made pl
    pub number : v.volume.number ≡ w.volume.number
    pub balance : Balance (view b w.volume) places pl (view b v.volume)
    pub others : drop i now ≡ drop i es
    pub long : length now ≡ length es

module _ {D T H : Type 0} (b : Base D T H) (lawful : Lawful b) where
  -- a story goes on by one call
  story_more : (w v u : State D T H) (ms : List Made) (m : Made) → Run b w ms v → Step b v m u → Run b w (ms ++ m ∷ []) u
  story_more w v u [] m same step = record { between = u; step = subst (λ x. Step b x m u) same step; others = refl }
  story_more w v u (x ∷ ms) m goes step = record { between = goes.between; step = goes.step; others = story_more goes.between v u ms m goes.others step }

  pub none_yet : (w : State D T H) (places : List (Option Slip)) (es : List Entry) → SoFar b w places es es 0 places w
  none_yet w places es = record { made = []; run = refl; entries = (refl, refl); number = refl; balance = λ k. refl; others = refl; long = refl }

  module _ (w v u : State D T H) (places pl pl2 : List (Option Slip)) (es now : List Entry) (i : ℕ) (d e' : Entry) (so_far : SoFar b w places es now i pl v) (inside : i < length es) where
    abbrev e : Entry
    e = get_or now i d

    below : i < length now
    below = omega (arith, so_far.long, inside)

    same_entry : get_or es i d ≡ e
    same_entry = ap (λ n. get_or es n d) (omega arith) ∙ sym (get_or-drop i es 0 d) ∙ ap (λ l. get_or l 0 d) (sym so_far.others) ∙ get_or-drop i now 0 d ∙ ap (λ n. get_or now n d) (omega arith)

    front : take (i + 1) es ≡ take i es ++ e ∷ []
    front = take_more es i d inside ∙ ap (λ x. take i es ++ x ∷ []) same_entry

    rest : drop (i + 1) now ≡ drop (i + 1) es
    rest = sym (drop-drop 1 i now) ∙ ap (drop 1) so_far.others ∙ drop-drop 1 i es

    balanced : (number : ℕ) → slips_of number pl2 + out_of number (view b v.volume) ≡ slips_of number pl + out_of number (view b u.volume)
        → slips_of number pl2 + out_of number (view b w.volume) ≡ slips_of number places + out_of number (view b u.volume)
    balanced k step = omega (arith, step, so_far.balance k)

    turned : (ms : List Made) → Run b w ms u → Entries w.volume.number places (take i es ++ e ∷ []) (take i now ++ e' ∷ []) ms pl2 → u.volume.number ≡ v.volume.number
        → ((k : ℕ) → slips_of k pl2 + out_of k (view b v.volume) ≡ slips_of k pl + out_of k (view b u.volume)) → SoFar b w places es (set now i e') (i + 1) pl2 u
    turned ms story entries number balance =
        let P : List Entry × List Entry → Type 0 = λ p. Entries w.volume.number places p.0 p.1 ms pl2 in
        record {
          made = ms;
          run = story;
          entries = subst P (λ k. (sym front k, sym (take_more_set now i e' below) k)) entries;
          number = number ∙ so_far.number;
          balance = λ k. balanced k (balance k);
          others = drop-set-lt (i + 1) now i e' (omega arith) ∙ rest;
          long = length-set now i e' ∙ so_far.long;
        }

    on_call : (o : Option story.Call) → call_of pl e.call ≡ o → MatchOption o (LeftOut e e' × (pl2 ≡ pl) × (u ≡ v)) (λ call. Done b v pl call e e' pl2 u) → SoFar b w places es (set now i e') (i + 1) pl2 u
    on_call None none (left, same_pool, same) =
        let story : Run b w so_far.made u = subst (Run b w so_far.made) (sym same) so_far.run in
        let entries : Entries w.volume.number places (take i es ++ e ∷ []) (take i now ++ e' ∷ []) so_far.made pl2 =
        subst (Entries w.volume.number places (take i es ++ e ∷ []) (take i now ++ e' ∷ []) so_far.made) (sym same_pool) (skip_more w.volume.number places pl (take i es) (take i now) so_far.made e e' so_far.entries none left) in
        turned so_far.made story entries (ap (λ s. s.volume.number) same) (λ k. (λ j. slips_of k (same_pool j) + out_of k (view b (sym same j).volume)))
    on_call (Some call) there c =
        let m = made_as call e e' c.answer in
        let carried = carry_more w.volume.number e e' call c.answer c.entered places pl (take i es) (take i now) so_far.made so_far.entries there in
        let end : moved w.volume.number pl c.answer e.call ≡ pl2 = ap (λ n. moved n pl c.answer e.call) (sym so_far.number) ∙ sym c.pool in
        let entries = subst (Entries w.volume.number places (take i es ++ e ∷ []) (take i now ++ e' ∷ []) (so_far.made ++ m ∷ [])) end carried in
        let number = number_stays b lawful (afresh []) v m u c.step in
        turned (so_far.made ++ m ∷ []) (story_more w v u so_far.made m so_far.run c.step) entries number
        (λ k.
        subst (λ q. slips_of k q + out_of k (view b v.volume) ≡ slips_of k pl + out_of k (view b u.volume)) (sym c.pool)
        (turn_balances b lawful k pl v u e.call call m c.answer refl refl there c.step))

    -- one entry more
    pub turn_more : Turn b v pl e e' pl2 u → SoFar b w places es (set now i e') (i + 1) pl2 u
    turn_more turn = on_call (call_of pl e.call) refl turn

  -- the whole list
  pub all_made : (w v : State D T H) (places pl : List (Option Slip)) (es now : List Entry) (i : ℕ) → SoFar b w places es now i pl v → length es ≡ i → Replayed b w places es now pl v
  all_made w v places pl es now i so_far end =
      let P : List Entry × List Entry → Type 0 = λ p. Entries w.volume.number places p.0 p.1 so_far.made pl in
      record {
        made = so_far.made;
        run = so_far.run;
        entries = subst P (λ k. (take_all i es (omega (arith, end)) k, take_all i now (omega (arith, end, so_far.long)) k)) so_far.entries;
      }
