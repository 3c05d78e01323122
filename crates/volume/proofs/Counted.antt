-- What no story changes: a volume's number, how many blocks and ways its devices have, and that they are sound.
use Rattle.std.proofs.Common.{◌≡◌, ℕ, ◌≤◌, List, [], ◌∷◌, ◌++◌, refl, sym, ◌∙◌, subst}
use Rattle.device.specs.Meaning.{Stays}
use Rattle.geometry.specs.Geometry.{levels, total}
use Rattle.volume.specs.declared.register.Register.{Register}
use Rattle.volume.specs.Ledger.{Ledger, afresh}
use Rattle.volume.specs.Promise.{Counts, Same}
use Rattle.volume.specs.Story.{Alike, Made, Run, State, Step, Story}
use Rattle.volume.specs.View.{Base, View, view}
use Rattle.volume.proofs.Effects.{stays_more, stays_none}
use Rattle.volume.proofs.Moves.{put_stays}
use Rattle.volume.proofs.Outcomes.{Lawful, Outcome, begun, kept, left, not_clear, opened, outcome, shut, stands, written}

pub same_counts : {v v' : View} (n : ℕ) → Same v v' → Counts v n → Counts v' n
same_counts {v} {v'} n same counts =
    record { store = same.store.blocks ∙ counts.store; tree = subst (λ k. total n ≤ k) (sym same.tree.blocks) counts.tree }

same_more : {u v x : View} → Same u v → Same v x → Same u x
same_more s t = record { number = t.number ∙ s.number; store = stays_more s.store t.store; tree = stays_more s.tree t.tree }

same_none : (v : View) → Same v v
same_none v = record { number = refl; store = stays_none v.store; tree = stays_none v.tree }

as_meant : {v v' : View} → v'.number ≡ v.number → v'.store ≡ v.store → v'.tree ≡ v.tree → Same v v'
as_meant {v} {v'} number store tree =
    record { number = number; store = subst (Stays v.store) (sym store) (stays_none v.store); tree = subst (Stays v.tree) (sym tree) (stays_none v.tree) }

module _ {l : Ledger} {v : View} {r : Register} {m : Made} {l' : Ledger} {v' : View} {r' : Register} where
  by_outcome : Outcome l v r m l' v' r' → Same v v'
  by_outcome (stands quiet o) = subst (Same v) (sym o.same) (same_none v)
  by_outcome (opened quiet o) = as_meant o.after.turned.number o.after.store o.after.tree
  by_outcome (begun is answered o) = as_meant o.after.turned.number o.after.store o.after.tree
  by_outcome (shut quiet o) = as_meant o.after.turned.number o.after.store o.after.tree
  by_outcome (left slip is answered own o) = as_meant o.after.turned.number o.after.store o.after.tree
  by_outcome (kept slip is answered own o) = record { number = o.after.turned.number; store = o.after.store.stays; tree = o.after.tree.stays }
  by_outcome (not_clear quiet o) = record { number = o.after.turned.number; store = o.after.store.stays; tree = o.after.tree.stays }
  by_outcome (written quiet slip n is o) =
      record {
        number = o.turned.number;
        store = o.put.data_block.written.stays;
        tree = put_stays v.image o.was.mind.blocks n m.log_left m.block o.put.first v.tree (levels o.was.mind.blocks) o.failed v'.tree o.put.tree_blocks;
      }

module _ {D T H : Type 0} (b : Base D T H) (lawful : Lawful b) where
  -- every story leaves them
  pub story_leaves : (ms : List Made) (w w' : State D T H) → Story b w ms w' → Same (view b w.volume) (view b w'.volume)
  story_leaves [] w w' is = subst (λ u. Same (view b w.volume) (view b u.volume)) (sym is) (same_none (view b w.volume))
  story_leaves (m ∷ ms) w w' s =
      same_more (by_outcome (outcome b lawful (afresh []) w m s.between s.step))
      (subst (λ v. Same v (view b w'.volume)) s.alike.same_view (story_leaves ms s.on w' s.others))

  alike_self : (w : State D T H) → Alike b w w
  alike_self w = record { same_view = refl; same_register = refl }

  -- a story goes on by one call
  pub story_on : (w v u : State D T H) (ms : List Made) (m : Made) → Story b w ms v → Step b v m u → Story b w (ms ++ m ∷ []) u
  story_on w v u [] m same step = record { between = u; step = subst (λ x. Step b x m u) same step; on = u; alike = alike_self u; others = refl }
  story_on w v u (x ∷ ms) m goes step =
      record { between = goes.between; step = goes.step; on = goes.on; alike = goes.alike; others = story_on goes.on v u ms m goes.others step }

  -- every run is a story
  pub run_is_story : (ms : List Made) (w w' : State D T H) → Run b w ms w' → Story b w ms w'
  run_is_story [] w w' same = same
  run_is_story (m ∷ ms) w w' r = record { between = r.between; step = r.step; on = r.between; alike = alike_self r.between; others = run_is_story ms r.between w' r.others }
