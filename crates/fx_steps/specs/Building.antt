-- A run under construction: the records in transit, of which the last one added leaves first.
use Rattle.std.specs.Prelude.{◌≡◌, ◌<◌, true, false, ℕ, List, [], ◌∷◌, ◌++◌, length, Option, Some, None}
use Rattle.fx_base.specs.declared.counts.Counts.{Counts}
use Rattle.fx_layout.specs.Keys.{Key}
use Rattle.fx_machine.specs.Acts.{Act, Tally, Send, Hold, Choices}
use Rattle.fx_tables.specs.Network.{Net, Exporter}
use Rattle.fx_base.specs.Entries.{entry_numbered}
use Rattle.fx_machine.specs.States.{State, after_tally, put_last}
use Rattle.fx_steps.specs.Ways.{Task, acts, one, to}

-- a record that is held, or on a link
pub data Item : Type 0 where
  Held : (holder : ℕ) (key : Key) → Item
  Carried : (link : ℕ) (key : Key) → Item

-- the record is appended at its place
abbrev pub with_item : Counts → Item → State → State
with_item counts (Held holder key) s = record s
    { held = put_last s.held holder (record { key = key; counts = counts }) }
with_item counts (Carried link key) s =
    record s { carried = put_last s.carried link (record { key = key; counts = counts }) }

-- these records are appended in order; the last of them is on top
abbrev pub with_items : Counts → List Item → State → State
with_items counts [] s = s
with_items counts (i ∷ is) s = with_items counts is (with_item counts i s)

-- all these keys are tallied
abbrev pub with_tallies : Net → Counts → List Key → State → State
with_tallies net counts [] s = s
with_tallies net counts (k ∷ ks) s = with_tallies net counts ks (after_tally net k counts s)

-- the task can be done with these choices: it results in these records, in this order, and these keys are tallied
pub data Spreads (net : Net) : Task → Choices → List Item → List Key → Type 0 where
  no_act : Spreads net (acts []) [] [] []
  next_act : (a : Act) (as' : List Act) (c d : Choices) (is js : List Item) (ks ls : List Key)
      → Spreads net (one a) c is ks → Spreads net (acts as') d js ls
      → Spreads net (acts (a ∷ as')) (c ++ d) (is ++ js) (ks ++ ls)
  tally : (key : Key) → Spreads net (one (Tally key)) [] [] (key ∷ [])
  hold : (holder : ℕ) (key : Key) → holder < length net.holders
      → Spreads net (one (Hold holder key)) (None ∷ []) (Held holder key ∷ []) []
  to_all : (e : Exporter) (key : Key) (is : List Item) → e.parallel ≡ true
      → Spreads net (to key e.destinations) [] is [] → Spreads net (one (Send e key)) [] is []
  to_any : (e : Exporter) (key : Key) (number : ℕ) (d : Option ℕ) (is : List Item) → e.parallel ≡ false
      → entry_numbered e.destinations number ≡ Some d → Spreads net (to key (d ∷ [])) [] is []
      → Spreads net (one (Send e key)) (Some number ∷ []) is []
  no_destination : (key : Key) → Spreads net (to key []) [] [] []
  to_outside : (key : Key) (ds : List (Option ℕ)) (is : List Item) → Spreads net (to key ds) [] is []
      → Spreads net (to key (None ∷ ds)) [] is []
  to_link : (key : Key) (link : ℕ) (ds : List (Option ℕ)) (is : List Item) → link < length net.links
      → Spreads net (to key ds) [] is [] → Spreads net (to key (Some link ∷ ds)) [] (Carried link key ∷ is) []
