-- The report of a label, byte for byte.
use Rattle.std.specs.Prelude.{◌≡◌, ℕ, ◌+◌, ◌/◌, ◌%◌, cond, Option, Some, None, IfSome, List, [], ◌∷◌, ◌++◌, length, take, codes, decimal, nat_lt}
use Rattle.std.specs.List.{AllZip}
use Rattle.sim.specs.Block.{sim_block}
use Rattle.sim.specs.Identity.{unpadded}
use Rattle.sim.specs.declared.Sim.{Sim}
use Rattle.geometry.specs.Geometry.{levels, total}

abbrev pub head_line : ℕ → ℕ → ℕ → List ℕ
head_line tray sims blocks = codes "tray " ++ (decimal tray ++ (codes ": SIMs " ++ (decimal sims ++ (codes ", blocks " ++ (decimal blocks ++ codes "\n")))))

abbrev pub sim_text : ℕ → List ℕ → ℕ → ℕ → List ℕ
sim_text block identity key sequence =
    codes "block " ++ (decimal block ++ (codes ": identity " ++ (identity ++ (codes ", key " ++ (decimal key ++ (codes ", sequence " ++ (decimal sequence ++ codes "\n")))))))

abbrev pub sim_line : ℕ → Sim → List ℕ
sim_line block s = sim_text block (unpadded s.identity.digits) s.key s.sequence.value

abbrev pub tree_line : ℕ → ℕ → List ℕ
tree_line levels blocks = codes "tree: levels " ++ (decimal levels ++ (codes ", blocks " ++ (decimal blocks ++ codes "\n")))

-- the digit of a number below 16, in lower case
abbrev pub hex_digit : ℕ → ℕ
hex_digit n = cond (nat_lt n 10) (48 + n) (87 + n)

-- two digits to a byte
abbrev pub hex : List ℕ → List ℕ
hex [] = []
hex (b ∷ bs) = hex_digit (b / 16) ∷ hex_digit (b % 16) ∷ hex bs

abbrev pub label_text : ℕ → List ℕ → List ℕ
label_text kind digits = codes "label: kind " ++ (decimal kind ++ (codes ", root " ++ (digits ++ codes "\n")))

abbrev pub label_line : ℕ → List ℕ → List ℕ
label_line kind root = label_text kind (hex root)

-- a line for each SIM, the first of them in block k
abbrev pub sim_lines : ℕ → List Sim → List ℕ
sim_lines k [] = []
sim_lines k (s ∷ ss) = sim_line k s ++ sim_lines (k + 1) ss

-- the whole report of a tray, from its number, its blocks, its SIMs, and the kind and the root of its label
unfoldable pub report_with : ℕ → ℕ → List Sim → ℕ → List ℕ → List ℕ
report_with tray blocks sims kind root =
    head_line tray (length sims) blocks ++ (sim_lines 0 sims ++ (tree_line (levels blocks) (total blocks) ++ label_line kind root))

-- what a block says: the SIM whose block it is, and nothing where it is the block of no SIM
pub record Says (block : List ℕ) (found : Option Sim) : Type 0 where
  pub encodes : IfSome found (λ s. sim_block s ≡ block)
  pub finds : (s : Sim) → sim_block s ≡ block → found ≡ Some s

abbrev pub line_of : ℕ → Option Sim → List ℕ
line_of k None = []
line_of k (Some s) = sim_line k s

-- a line for each block that says a SIM, the first of the blocks being block k
abbrev pub found_lines : ℕ → List (Option Sim) → List ℕ
found_lines k [] = []
found_lines k (found ∷ others) = line_of k found ++ found_lines (k + 1) others

-- the lines of these blocks are written after a text
pub record AddsLines (blocks : List (List ℕ)) (before after : List ℕ) : Type 0 where
  pub found : List (Option Sim)
  pub says : AllZip Says blocks found
  pub text : after ≡ before ++ found_lines 0 found

-- The whole report of a volume with these blocks, whatever they are: each SIM is told as its block says it. So many blocks at the front
-- are for SIMs.
pub record ReportFrom (tray blocks sims : ℕ) (contents : List (List ℕ)) (kind : ℕ) (root text : List ℕ) : Type 0 where
  pub found : List (Option Sim)
  pub says : AllZip Says (take sims contents) found
  pub is : text ≡ head_line tray sims blocks ++ (found_lines 0 found ++ (tree_line (levels blocks) (total blocks) ++ label_line kind root))
