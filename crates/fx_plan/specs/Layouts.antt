-- The layouts of a network, each once: those of its caches, those of its aggregations, and that of the report.
use Rattle.std.specs.Prelude.{◌≡◌, ℕ, List, [], ◌∷◌, ◌++◌, map, Some, slice_get, if◌then◌else◌, Bool}
use Rattle.std.specs.List.{list_any}
use Rattle.fx_layout.specs.Keys.{Layout, same_layout}
use Rattle.fx_tables.specs.Network.{Net, Holder}

abbrev pub is_known : List Layout → Layout → Bool
is_known known layout = list_any (λ other. same_layout other layout) known

abbrev pub with_layout : List Layout → Layout → List Layout
with_layout known layout = if is_known known layout then known else known ++ layout ∷ []

-- adds layouts, each only if it isn't in the list yet
abbrev pub with_layouts : List Layout → List Layout → List Layout
with_layouts known [] = known
with_layouts known (layout ∷ layouts) = with_layouts (with_layout known layout) layouts

abbrev pub held_layouts : List Holder → List Layout
held_layouts holders = map (λ holder. holder.layout) holders

abbrev pub layouts_of : Net → List Layout
layouts_of net = with_layout (with_layouts [] (held_layouts net.holders)) net.report_layout

-- these are the 0-based numbers of the layouts of the holders of records
abbrev pub AreNumbers : List Layout → List Holder → List ℕ → Type 0
AreNumbers layouts [] [] = Unit {0}
AreNumbers layouts [] (number ∷ numbers) = ⊥
AreNumbers layouts (holder ∷ holders) [] = ⊥
AreNumbers layouts (holder ∷ holders) (number ∷ numbers) = (slice_get layouts number ≡ Some holder.layout)
    × AreNumbers layouts holders numbers
