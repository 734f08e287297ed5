-- The lines of a schedule: words, each two separated by a space.
use Rattle.std.specs.Prelude.{◌≡◌, ℕ, Bool, true, ◌&&◌, nat_lt, List, [], ◌∷◌, codes, decimal, Option, Some, None}
use Rattle.std.specs.List.{join_with_byte}
use Rattle.fx_run_text.specs.RunText.{IsNumber}
use Rattle.fx_net.specs.declared.action.Action.{Action}
use Rattle.fx_net.specs.declared.action.Action.TheVariants.{Next, NextOf, Expire, Emit, Carry, Use}

abbrev pub action_words : Action → List (List ℕ)
action_words Next = codes "next" ∷ []
action_words (NextOf class path) = codes "next" ∷ decimal class ∷ decimal path ∷ []
action_words (Expire device cache) = codes "expire" ∷ decimal device ∷ decimal cache ∷ []
action_words (Emit device process aggregation) = codes "emit" ∷ decimal device ∷ decimal process ∷ decimal aggregation
    ∷ []
action_words (Carry link octets) = codes "carry" ∷ decimal link ∷ decimal octets ∷ []
action_words (Use device exporter destination) = codes "use" ∷ decimal device ∷ decimal exporter ∷ decimal destination
    ∷ []

-- the number of octets carried at once: from 1 to 65,535
abbrev pub is_piece : ℕ → Bool
is_piece octets = nat_lt 0 octets && nat_lt octets 65536

abbrev pub IsAction : Action → Type 0
IsAction Next = Unit {0}
IsAction (NextOf class path) = IsNumber class × IsNumber path
IsAction (Expire device cache) = IsNumber device × IsNumber cache
IsAction (Emit device process aggregation) = IsNumber device × IsNumber process × IsNumber aggregation
IsAction (Carry link octets) = IsNumber link × (is_piece octets ≡ true)
IsAction (Use device exporter destination) = IsNumber device × IsNumber exporter × IsNumber destination

-- the line, without its line feed, requests this action
abbrev pub AsksFor : List ℕ → Action → Type 0
AsksFor line action = IsAction action × (line ≡ join_with_byte 32 (action_words action))

-- the result of reading a line: the action that it requests, or none if it requests none
abbrev pub ReadsLine : List ℕ → Option Action → Type 0
ReadsLine line (Some action) = AsksFor line action
ReadsLine line None = (action : Action) → AsksFor line action → ⊥
