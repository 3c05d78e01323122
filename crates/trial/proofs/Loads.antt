-- What a load comes to, by what came back and what was printed of it.
use Rattle.std.proofs.Common.{◌≡◌, ℕ, List, ◌++◌, map, vec_items, Result, String, Ok, Err, IfOk, ap, ◌∙◌}
use Rattle.std.specs.Prelude.{string_bytes}
use Rattle.std.specs.declared.alloc.Global.{Global}
use Rattle.digest.specs.declared.hash.Hash
use Rattle.label.specs.Label.{sheet_volume}
use Rattle.label.specs.Report.{report_with}
use Rattle.sim.specs.Block.{sim_block}
use Rattle.subscriber.specs.declared.sheet.Sheet.{Sheet}
use Rattle.tree.specs.Layout.{root_of}
use Rattle.volume.specs.declared.register.Register.{Register}
use Rattle.volume.specs.View.{base}
use Rattle.trial.specs.Good.{TakenThrough}
use Rattle.trial.specs.Trial.{LoadedUnder, Prints, box_device, box_source, stage_lines}
use Rattle.trial.proofs.GoodCards.{filled_volume}

module _ {H : Type 0} (hash : Hash.Ghosts H) (h : H) (s : Sheet) (read : List (List ℕ)) (register : Register)
    (taken : TakenThrough (base box_source box_source box_device box_device hash) s.tray.value h (map sim_block (vec_items s.sims)) s.blocks.value read register)
  where
    pub came_back : read ≡ sheet_volume s
    came_back = taken.read_back ∙ filled_volume (vec_items s.sims) s.blocks.value

    pub loaded_if : {E : Type 0} (r : Result (String Global) E) → IfOk r (λ t. Prints s read register.kind register.root (string_bytes t)) → IfOk r (λ t. LoadedUnder hash h s (string_bytes t))
    loaded_if (Ok t) prints =
        record {
          read = read;
          register = register;
          trial = taken.trial;
          read_back = came_back;
          entered =
              record {
                blocks = taken.entered.blocks;
                kind = taken.entered.kind;
                root = taken.entered.root ∙ ap (λ c. root_of (hash.image h) c) (filled_volume (vec_items s.sims) s.blocks.value);
              };
          prints = prints;
        }
    loaded_if (Err e) prints = tt

    pub of_sheet_if : {E : Type 0} (r : Result (String Global) E)
        → IfOk r (λ t. string_bytes t ≡ stage_lines s ++ report_with s.tray.value s.blocks.value (vec_items s.sims) register.kind register.root)
        → IfOk r (λ t. string_bytes t ≡ stage_lines s ++ report_with s.tray.value s.blocks.value (vec_items s.sims) hash.KIND (root_of (hash.image h) (sheet_volume s)))
    of_sheet_if (Ok t) says =
        let root = taken.entered.root ∙ ap (λ c. root_of (hash.image h) c) (filled_volume (vec_items s.sims) s.blocks.value) in
        says ∙ (λ i. stage_lines s ++ report_with s.tray.value s.blocks.value (vec_items s.sims) (taken.entered.kind i) (root i))
    of_sheet_if (Err e) says = tt
