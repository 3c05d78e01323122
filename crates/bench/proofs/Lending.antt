-- The volume beside a box: it formats, opens and begins.
use Rattle.std.proofs.Common.{◌≡◌, ℕ, ◌≤◌, false, get_or, None, Some, [], ◌∷◌, Result, Ok, refl, sym, ap, ◌∙◌, subst, arith}
use Rattle.std.proofs.lemmas.List.{length-replicate}
use Rattle.volume.specs.declared.register.Register.{Register}
use Rattle.volume.specs.declared.slip.Slip.{Slip}
use Rattle.volume.specs.declared.volume.Volume.{Volume}
use Rattle.volume.specs.Calls.{BeginStep, Beginning, FormatStep, OpenStep, Opening}
use Rattle.volume.specs.Promise.{Counts, slip_is_out}
use Rattle.volume.specs.Refusals.{Reason}
use Rattle.volume.specs.Slips.{one_of, slip_with}
use Rattle.volume.specs.View.{Base, Open, View, open_of, view}
use Rattle.volume.proofs.Decided.{MayFormat, begin_pass, open_pass}
use Rattle.volume.proofs.Outcomes.{Lawful}
use Rattle.volume.proofs.Starts.{format_starts, sound_format}
use Rattle.volume.proofs.Worked.{worked_cases}
use Rattle.bench.specs.Beside.{HasOut, IsBlock, Lent, Stands}
use Rattle.bench.proofs.Outs.{out_none, out_one}

-- the tree over one block is one block, by the worked cases
one_fits : MayFormat 1 1
one_fits =
    record {
      least = omega arith;
      most = omega arith;
      tree_count = subst (λ (k : ℕ). k ≤ 1) (sym (ap (λ l. get_or l 0 0) worked_cases.totals)) (omega arith);
    }

-- a closed volume over two sound blocks
pub stands_over : (v : View) → v.present ≡ None → IsBlock v.store → IsBlock v.tree → Stands v
stands_over v closed store tree =
    let may : MayFormat v.store.blocks v.tree.blocks = subst (λ n. MayFormat n v.tree.blocks) (sym store.one) (subst (λ m. MayFormat 1 m) (sym tree.one) one_fits) in
    record {
      formattable = record { closed = closed; least = may.least; most = may.most; tree = may.tree_count };
      sound = (store.sound, tree.sound);
    }

-- a pool of nothing, beside a volume that is closed
pub none_lent : (v : View) → v.present ≡ None → Lent v (None ∷ None ∷ None ∷ None ∷ [])
none_lent v closed k = omega (arith, out_none k v (ap slip_is_out closed))

pub one_lent : (v : View) (s : Slip) → HasOut v s → Lent v (Some s ∷ None ∷ None ∷ None ∷ [])
one_lent v s out k = omega (arith, out k)

module _ {D T H : Type 0} (b : Base D T H) where
  -- what an open volume without a slip has in mind once the register is its own
  abbrev pub mind_of : Register → Open
  mind_of r = record { blocks = r.blocks; root = r.root; slip_out = false }

  pub begins : (s s' : Volume D T H) (r : Register) (answer : Result Unit Reason) → open_of s.present ≡ Some (mind_of r) → BeginStep b s answer s' → Beginning b s (mind_of r) answer s'
  begins s s' r answer present step = step.goes_on (mind_of r) (begin_pass (open_of s.present) (mind_of r) present refl)

  -- the slip that it gave is out
  pub has_out : (s s' : Volume D T H) (r : Register) (answer : Result Unit Reason) (slip : Slip) → Beginning b s (mind_of r) answer s' → slip ≡ slip_with s.number → HasOut (view b s') slip
  has_out s s' r answer slip begun is k =
      ap (λ x. one_of k (Some x)) is ∙ sym (out_one k (view b s') s.number (ap slip_is_out begun.after.present) (ap (λ u. u.number) begun.after.others))

  module _ (lawful : Lawful b) (s s1 : Volume D T H) (r r1 : Register) (answer : Result Unit Reason) (step : FormatStep b s r answer s1 r1) (stands : Stands (view b s)) where
    pub formats : answer ≡ Ok tt
    formats = (sound_format b lawful s s1 r r1 answer step stands.formattable stands.sound).0

    pub opens : (s2 : Volume D T H) (opened : Result Unit Reason) → OpenStep b s1 r1 opened s2 → Opening b s1 r1 opened s2
    opens s2 opened opening =
        let n : ℕ = (view b s).store.blocks in
        let begun = format_starts b lawful s s1 r r1 answer step formats in
        let blocks : r1.blocks ≡ n = begun.0.register.blocks ∙ length-replicate n _ in
        let counts : Counts (view b s1) r1.blocks = subst (λ k. Counts (view b s1) k) (sym blocks) begun.1 in
        opening.goes_on tt
        (open_pass (open_of s1.present) r1.blocks r1.kind b.hash.KIND (b.store.meaning s1.store).blocks (b.tree.meaning s1.tree).blocks begun.0.closed
        (record {
          formatted = omega (arith, blocks, stands.formattable.least);
          of_kind = begun.0.register.kind;
          store_count = counts.store;
          tree_count = counts.tree;
        }))
