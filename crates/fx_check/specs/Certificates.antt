-- The lines of a sound certificate.
use Rattle.std.specs.Prelude.{◌≡◌, ℕ, ◌+◌, ◌<◌, ◌≤◌, true, List, [], ◌∷◌, ◌++◌, map, length}
use Rattle.std.specs.List.{AllByRecursion}
use Rattle.fx_cert.specs.declared.item.Item.{Item}
use Rattle.fx_cert.specs.declared.item.Item.TheVariants as item
use Rattle.fx_cert.specs.declared.item.Version.{Version}
use Rattle.fx_cert.specs.declared.item.Version.TheVariants.{One}
use Rattle.fx_cert.specs.ItemText.{IsItem, item_text}
use Rattle.fx_tables.specs.Classes.{Class}
use Rattle.fx_tables.specs.Network.{Net}
use Rattle.fx_leaf.specs.Certificates.{Tree, Leaf, Uncounted, Split, Sound}
use Rattle.fx_traffic.specs.Targets.{Target, targets_of}
use Rattle.fx_check.specs.FirstRefusal.{Line, line_limit, depth_limit}

-- a split, then the tree of its lower part, then that of its upper part
abbrev pub tree_items : Tree → List Item
tree_items (Leaf crossing point process) = item.Leaf crossing point process ∷ []
tree_items Uncounted = item.Never ∷ []
tree_items (Split axis at below above) = item.Split axis at ∷ (tree_items below ++ tree_items above)

-- the line and the tree of each target, then the last line
abbrev pub body_items : List Target → List Tree → List Item
body_items (t ∷ ts) (x ∷ xs) = item.Class t.class t.path ∷ (tree_items x ++ body_items ts xs)
body_items _ _ = item.End ∷ []

abbrev pub certificate_items : Version → List Target → List Tree → List Item
certificate_items v ts xs = item.Header v ∷ body_items ts xs

-- the text of the item, ended by a line feed
abbrev pub item_line : Item → Line
item_line i = (item_text i, true)

-- the numbers of the item are within their bounds, and its text has at most 4,096 bytes
abbrev pub IsWritable : Item → Type 0
IsWritable i = IsItem i × (length (item_text i) ≤ 4096)

-- ---- limits

-- the number of split and leaf lines
abbrev pub size : Tree → ℕ
size (Leaf crossing point process) = 1
size Uncounted = 1
size (Split axis at below above) = 1 + (size below + size above)

abbrev pub sizes : List Tree → ℕ
sizes [] = 0
sizes (x ∷ xs) = size x + sizes xs

-- no split of a tree is too deep, given the depth of the root
abbrev pub IsShallow : ℕ → Tree → Type 0
IsShallow d (Leaf crossing point process) = Unit {0}
IsShallow d Uncounted = Unit {0}
IsShallow d (Split axis at below above) = (d < depth_limit) × IsShallow (d + 1) below × IsShallow (d + 1) above

-- ---- certificates

-- no leaf of the tree says that nothing is counted
abbrev pub AllCounted : Tree → Type 0
AllCounted (Leaf crossing point process) = Unit {0}
AllCounted Uncounted = ⊥
AllCounted (Split axis at below above) = AllCounted below × AllCounted above

-- a tree for each path of each class
abbrev pub AreFor : List Class → List (List Tree) → Type 0
AreFor [] [] = Unit {0}
AreFor (class ∷ classes) (xs ∷ trees) = (length xs ≡ length class.paths) × AreFor classes trees
AreFor [] (xs ∷ trees) = ⊥
AreFor (class ∷ classes) [] = ⊥

-- all trees, class by class
abbrev pub in_a_row : List (List Tree) → List Tree
in_a_row [] = []
in_a_row (xs ∷ trees) = xs ++ in_a_row trees

-- the lines are those of a sound certificate within the limits
pub record IsCertificate (net : Net) (classes : List Class) (lines : List Line) : Type 0 where
  pub version : Version
  pub trees : List (List Tree)
  pub each : AreFor classes trees
  pub sound : Sound net classes trees
  pub counted : version ≡ One → AllByRecursion AllCounted (in_a_row trees)
  pub shallow : AllByRecursion (IsShallow 0) (in_a_row trees)
  pub lines_are : lines ≡ map item_line (certificate_items version (targets_of classes) (in_a_row trees))
  pub writable : AllByRecursion IsWritable (certificate_items version (targets_of classes) (in_a_row trees))
  pub few : sizes (in_a_row trees) ≤ line_limit
