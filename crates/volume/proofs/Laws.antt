-- What the steps of the devices come to, by their laws: what proofs/Meant says of what they mean.
use Rattle.std.proofs.Common.{◌≡◌, ℕ, zero, suc, ◌+◌, ◌<◌, Option, None, Some, List, [], ◌∷◌, ◌++◌, length, Result, Ok, Err, MatchResult, add-one, refl, sym, ap, ◌∙◌, subst, ⊎_elim, append_assoc, append-nil, arith}
use Rattle.std.specs.List.{All}
use Rattle.std.proofs.lemmas.List.{length_push}
use Rattle.device.specs.declared.device.Device
use Rattle.device.specs.declared.fault.Fault.{Fault}
use Rattle.device.specs.declared.source.Source
use Rattle.device.specs.Meaning.{CanRead, KeepsReads, KeepsWrites, Meaning}
use Rattle.device.specs.Memory.{with_part}
use Rattle.device.specs.Zeros.{zeros}
use Rattle.geometry.specs.Geometry.{levels, place}
use Rattle.tree.specs.Paths.{cell_at, new_block}
use Rattle.volume.specs.Record.{blank}
use Rattle.volume.specs.Refusals.{Reason, Stuck}
use Rattle.volume.specs.Walk as walk
use Rattle.volume.specs.Writes as writes
use Rattle.volume.specs.Writes.{passed_at}
use Rattle.volume.proofs.Effects.{rewritten_more, rewritten_none}
use Rattle.volume.proofs.Meant as meant
use Rattle.volume.proofs.Meant.{NoneOf, Passes, Rewritten, Trial}
use Rattle.volume.proofs.Trials.{none_of_more, none_of_none}

module _ {S : Type 0} (g : Source.Ghosts S) (keeps : KeepsReads g.meaning g.reads) (image : List ℕ → List ℕ) where
  -- a read gave bytes or a fault, as what the source means lets it, and left that as it is
  asked_means : (C : Type 0) {way n : ℕ} {s : S} {Given : List ℕ → S → Type 0} {Refused : Fault → S → Type 0} → walk.Asked g way n s Given Refused
      → ((bytes : List ℕ) (between : S) → CanRead (g.meaning s) way n (Ok bytes) → g.meaning between ≡ g.meaning s → Given bytes between → C)
      → ((fault : Fault) (between : S) → CanRead (g.meaning s) way n (Err fault) → g.meaning between ≡ g.meaning s → Refused fault between → C) → C
  asked_means C {way} {n} {s} {Given} {Refused} asked given refused =
      on asked.answer (keeps.answers asked.step) asked.goes_on
    where
      on : (answer : Result (List ℕ) Fault) → CanRead (g.meaning s) way n answer → MatchResult answer (λ bytes. Given bytes asked.between) (λ fault. Refused fault asked.between) → C
      on (Ok bytes) can goes_on = given bytes asked.between can (keeps.stands asked.step) goes_on
      on (Err fault) can goes_on = refused fault asked.between can (keeps.stands asked.step) goes_on

  module _ (n : ℕ) (expected : List ℕ) (m : Meaning) where
    search_from : (left way : ℕ) (last : Option Fault) (s : S) (outcome : Result (List ℕ) (Option Fault)) (t : S) → g.meaning s ≡ m → way + left ≡ m.ways → NoneOf image m n expected way last
        → walk.Search g image n expected left way last s outcome t → Trial image m n expected outcome × (g.meaning t ≡ m)
    search_from zero way last s outcome t means all none (is, stands) =
        let at_end : way ≡ m.ways = omega (arith, all) in (subst (Trial image m n expected) (sym is) (subst (λ w. NoneOf image m n expected w last) at_end none), ap g.meaning stands ∙ means)
    search_from (suc left) way last s outcome t means all none asked =
        let P : Result (List ℕ) (Option Fault) → Type 0 = λ r. Trial image m n expected r in
        asked_means (Trial image m n expected outcome × (g.meaning t ≡ m)) asked
        (λ bytes between can still goes.
        let answered : CanRead m way n (Ok bytes) = subst (λ v. CanRead v way n (Ok bytes)) means can in
        ⊎_elim
        (λ passed.
        let passes : Passes image m n expected bytes = record { way = way; below = omega (arith, all); earlier = none.all; answered = answered; as_expected = passed.0; whole = passed.1 } in
        (subst P (sym passed.2) passes, ap g.meaning passed.3 ∙ still ∙ means))
        (λ other.
        let next : NoneOf image m n expected (suc way) None =
        subst (λ w. NoneOf image m n expected w None) (add-one way) (none_of_more image m n expected way last None none (record { bytes = bytes; answered = answered; other = other.0 })) in
        search_from left (suc way) None between outcome t (still ∙ means) (omega (arith, all)) next other.1)
        goes)
        (λ fault between can still goes.
        let next : NoneOf image m n expected (suc way) (Some fault) =
        subst (λ w. NoneOf image m n expected w (Some fault)) (add-one way) (none_of_more image m n expected way last (Some fault) none (subst (λ v. CanRead v way n (Err fault)) means can)) in
        search_from left (suc way) (Some fault) between outcome t (still ∙ means) (omega (arith, all)) next goes)

  -- a search through all ways comes to a trial
  pub search_means : (n : ℕ) (expected : List ℕ) (s : S) (outcome : Result (List ℕ) (Option Fault)) (t : S) → walk.Search g image n expected (g.meaning s).ways 0 None s outcome t
      → Trial image (g.meaning s) n expected outcome × (g.meaning t ≡ g.meaning s)
  search_means n expected s outcome t search =
      search_from n expected (g.meaning s) (g.meaning s).ways 0 None s outcome t refl (omega arith) (none_of_none image (g.meaning s) n expected) search

  -- a block looked for either passed or did not, and what the source means is as it was
  pub tried_means : (C : Type 0) {n : ℕ} {expected : List ℕ} {s : S} {Passed : List ℕ → S → Type 0} {Failed : Option Fault → S → Type 0} → walk.Tried g image n expected s Passed Failed
      → ((bytes : List ℕ) (between : S) → Passes image (g.meaning s) n expected bytes → g.meaning between ≡ g.meaning s → Passed bytes between → C)
      → ((why : Option Fault) (between : S) → NoneOf image (g.meaning s) n expected (g.meaning s).ways why → g.meaning between ≡ g.meaning s → Failed why between → C) → C
  tried_means C {n} {expected} {s} {Passed} {Failed} tried passed failed =
      let means = search_means n expected s tried.outcome tried.between tried.search in
      on tried.outcome means.0 means.1 tried.goes_on
    where
      on : (outcome : Result (List ℕ) (Option Fault)) → Trial image (g.meaning s) n expected outcome → g.meaning tried.between ≡ g.meaning s
          → MatchResult outcome (λ bytes. Passed bytes tried.between) (λ why. Failed why tried.between) → C
      on (Ok bytes) trial still goes_on = passed bytes tried.between trial still goes_on
      on (Err why) trial still goes_on = failed why tried.between trial still goes_on

  module _ (blocks n : ℕ) where
    pub walk_means : (l : ℕ) (expected log : List ℕ) (s : S) (answer : Result (List ℕ) Reason) (left : List ℕ) (t : S) → walk.Walked g image blocks n l expected log s answer left t
        → meant.Walked image (g.meaning s) blocks n l expected log answer left × (g.meaning t ≡ g.meaning s)
    walk_means zero expected log s answer left t (is, stands, still) = ((is, stands), ap g.meaning still)
    walk_means (suc l) expected log s answer left t w =
        tried_means (meant.Walked image (g.meaning s) blocks n (suc l) expected log answer left × (g.meaning t ≡ g.meaning s)) w
        (λ bytes between passes still rest.
        let cell : List ℕ = cell_at bytes (place blocks l n).1 in
        let next : List ℕ = with_part log (suc l) bytes in
        let after = walk_means l cell next between answer left t rest in
        (record { outcome = Ok bytes; trial = passes; goes_on = subst (λ m. meant.Walked image m blocks n l cell next answer left) still after.0 }, after.1 ∙ still))
        (λ why between none still stuck. (record { outcome = Err why; trial = none; goes_on = (stuck.0, stuck.1) }, ap g.meaning stuck.2 ∙ still))

  fetch_block_means : (n : ℕ) (expected log : List ℕ) (s : S) (answer : Result Unit Reason) (block left : List ℕ) (t : S) → walk.FetchedBlock g image n expected log s answer block left t
      → meant.FetchedBlock image (g.meaning s) n expected log answer block left × (g.meaning t ≡ g.meaning s)
  fetch_block_means n expected log s answer block left t f =
      tried_means (meant.FetchedBlock image (g.meaning s) n expected log answer block left × (g.meaning t ≡ g.meaning s)) f
      (λ bytes between passes still came. (record { outcome = Ok bytes; trial = passes; goes_on = (came.0, came.1, came.2) }, ap g.meaning came.3 ∙ still))
      (λ why between none still stuck. (record { outcome = Err why; trial = none; goes_on = (stuck.0, stuck.1, stuck.2) }, ap g.meaning stuck.3 ∙ still))

module _ {S U : Type 0} (g : Source.Ghosts S) (h : Source.Ghosts U) (keeps_store : KeepsReads g.meaning g.reads) (keeps_tree : KeepsReads h.meaning h.reads) (image : List ℕ → List ℕ) where
  pub fetch_means : (blocks n : ℕ) (root : List ℕ) (s : S) (t : U) (answer : Result Unit Reason) (block left : List ℕ) (s' : S) (t' : U) → walk.Fetched g h image blocks n root s t answer block left s' t'
      → meant.Fetched image (g.meaning s) (h.meaning t) blocks n root answer block left × (g.meaning s' ≡ g.meaning s) × (h.meaning t' ≡ h.meaning t)
  fetch_means blocks n root s t answer block left s' t' f =
      let walked = walk_means h keeps_tree image blocks n (levels blocks) root blank t f.walked f.passed t' f.walk in
      let fetched = on f.walked f.fetch in
      (record { walked = f.walked; passed = f.passed; walk = walked.0; fetch = fetched.0 }, fetched.1, walked.1)
    where
      on : (r : Result (List ℕ) Reason) → MatchResult r (λ expected. walk.FetchedBlock g image n expected f.passed s answer block left s') (λ e. (answer ≡ Err e) × (block ≡ zeros) × (left ≡ f.passed) × (s' ≡ s))
          → MatchResult r (λ expected. meant.FetchedBlock image (g.meaning s) n expected f.passed answer block left) (λ e. (answer ≡ Err e) × (block ≡ zeros) × (left ≡ f.passed)) × (g.meaning s' ≡ g.meaning s)
      on (Ok expected) fetch = fetch_block_means g keeps_store image n expected f.passed s answer block left s' fetch
      on (Err e) fetch = ((fetch.0, fetch.1, fetch.2), ap g.meaning fetch.3)

module _ {D : Type 0} (g : Source.Ghosts D) (d : Device.Ghosts D) (keeps : KeepsWrites g.meaning d.writes d.settles) where
  pub put_means : {n : ℕ} {block : List ℕ} {at : Fault → Stuck} {before : Option Stuck} {s : D} {failed : Option Stuck} {t : D} → length block ≡ 512 → writes.Put d n block at before s failed t
      → meant.Put n block at before (g.meaning s) failed (g.meaning t)
  put_means long put = record { answer = put.answer; written = keeps.written long put.step; told = put.told }

  module _ (image : List ℕ → List ℕ) (blocks n : ℕ) (log block : List ℕ) (first : Option Stuck) (s : D) where
    -- what is written up the tree is whole
    pub put_up_means : (l : ℕ) (failed : Option Stuck) (t : D) → ((j : ℕ) → j < l → length (new_block image blocks n (passed_at log) block j) ≡ 512) → writes.PutUp d image blocks n log block first s l failed t
        → meant.PutUp image blocks n log block first (g.meaning s) l failed (g.meaning t)
    put_up_means zero failed t whole (stands, still) = (stands, ap g.meaning still)
    put_up_means (suc l) failed t whole up =
        record { failed = up.failed; meaning = g.meaning up.between; lower = put_up_means l up.failed up.between (λ j h. whole j (omega arith)) up.lower; level = put_means (whole l (omega arith)) up.level }

  in_turn_from : (m : Meaning) (at : ℕ) (before blocks : List (List ℕ)) (s t : D) → length before ≡ at → All (λ b. length b ≡ 512) blocks → Rewritten m before (g.meaning s) → writes.InTurn d at blocks s t
      → Rewritten m (before ++ blocks) (g.meaning t)
  in_turn_from m at before [] s t size whole r stands = subst (λ v. Rewritten m (before ++ []) (g.meaning v)) (sym stands) (subst (λ l. Rewritten m l (g.meaning s)) (sym (append-nil before)) r)
  in_turn_from m at before (block ∷ blocks) s t size whole r turn =
      let next : Rewritten m (before ++ block ∷ []) (g.meaning turn.between) = rewritten_more at r (sym size) (keeps.written (whole 0 [] (omega arith)) turn.step) in
      let after : Rewritten m ((before ++ block ∷ []) ++ blocks) (g.meaning t) =
      in_turn_from m (suc at) (before ++ block ∷ []) blocks turn.between t (omega (arith, length_push before block, size)) (λ k e h. whole (suc k) e (omega arith)) next turn.others in
      subst (λ l. Rewritten m l (g.meaning t)) (append_assoc before (block ∷ []) blocks) after

  -- whole blocks written in turn from block 0 on
  pub in_turn_means : (blocks : List (List ℕ)) (s t : D) → All (λ b. length b ≡ 512) blocks → writes.InTurn d 0 blocks s t → Rewritten (g.meaning s) blocks (g.meaning t)
  in_turn_means blocks s t whole turn = in_turn_from (g.meaning s) 0 [] blocks s t refl whole (rewritten_none (g.meaning s)) turn

module _ {D T : Type 0} (g : Source.Ghosts D) (h : Source.Ghosts T) (d : Device.Ghosts D) (e : Device.Ghosts T) (keeps_store : KeepsWrites g.meaning d.writes d.settles) (keeps_tree : KeepsWrites h.meaning e.writes e.settles) where
  pub path_put_means : (image : List ℕ → List ℕ) (blocks n : ℕ) (log block : List ℕ) (store : D) (tree : T) (failed : Option Stuck) (store' : D) (tree' : T) → length block ≡ 512
      → ((j : ℕ) → j < levels blocks → length (new_block image blocks n (passed_at log) block j) ≡ 512) → writes.PathPut d e image blocks n log block store tree failed store' tree'
      → meant.PathPut image blocks n log block (g.meaning store) (h.meaning tree) failed (g.meaning store') (h.meaning tree')
  path_put_means image blocks n log block store tree failed store' tree' long whole put =
      record {
        first = put.first;
        data_block = put_means g d keeps_store long put.data_block;
        tree_blocks = put_up_means h e keeps_tree image blocks n log block put.first tree (levels blocks) failed tree' whole put.tree_blocks;
      }
