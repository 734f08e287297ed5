-- The sum of totals of one report that were collected separately, and of the notes that accompany them.
use Rattle.std.specs.Prelude.{◌≡◌, ℕ, ◌+◌, ◌%◌, ◌^◌, ◌&&◌, Bool, List, [], ◌∷◌, Option, Some, None}
use Rattle.fx_layout.specs.Keys.{Layout, Key}
use Rattle.fx_machine.specs.Sums.{total_at}
use Rattle.fx_collect.specs.Totals.{Totals, nothing, with_records, with_unassigned}
use Rattle.fx_sums.specs.declared.notes.Notes.{Notes}
use Rattle.fx_sums.specs.declared.notes.SkippedFrames.{SkippedFrames}

pub record Sum : Type 0 where
  pub totals : Totals
  pub notes : Notes

-- the two sums differ at most in the records under keys
abbrev pub IsSumBut : Sum → Sum → Type 0
IsSumBut s t = (t.totals.layout ≡ s.totals.layout) × (t.totals.unassigned ≡ s.totals.unassigned) × (t.notes ≡ s.notes)

-- ---- the empty sum

abbrev pub no_notes : Notes
no_notes = record { complete = None; frames = None; gaps = None; skipped = None }

abbrev pub no_sum : Layout → Sum
no_sum layout = record { totals = nothing layout; notes = no_notes }

-- ---- the sum of two

-- notes that both have are combined, and a note that only one has is kept
abbrev pub joined : {A : Type 0} → (A → A → A) → Option A → Option A → Option A
joined f None other = other
joined f (Some x) None = Some x
joined f (Some x) (Some y) = Some (f x y)

abbrev pub plus_numbers : ℕ → ℕ → ℕ
plus_numbers a b = (a + b) % 2 ^ 64

abbrev pub plus_frames : SkippedFrames → SkippedFrames → SkippedFrames
plus_frames a b = record { other = plus_numbers a.other b.other; malformed = plus_numbers a.malformed b.malformed }

-- complete if both are, and the sums of the numbers
abbrev pub plus_notes : Notes → Notes → Notes
plus_notes m n = record {
  complete = joined (λ (a b : Bool). a && b) m.complete n.complete;
  frames = joined plus_frames m.frames n.frames;
  gaps = joined plus_numbers m.gaps n.gaps;
  skipped = joined plus_numbers m.skipped n.skipped;
}

-- the counts under each key of the second are added to the first, and so are its unassigned records
abbrev pub plus_totals : Totals → Totals → Totals
plus_totals t u = with_unassigned (with_records t u.entries) u.unassigned

abbrev pub plus : Sum → Sum → Sum
plus s t = record { totals = plus_totals s.totals t.totals; notes = plus_notes s.notes t.notes }

-- each is added in order
abbrev pub plus_all : Sum → List Sum → Sum
plus_all s [] = s
plus_all s (t ∷ ts) = plus_all (plus s t) ts

-- ---- equivalence

-- the same total at each key, and the same number of unassigned records
abbrev pub HaveSameTotals : Totals → Totals → Type 0
HaveSameTotals t u = ((key : Key) → total_at t.entries key ≡ total_at u.entries key) × (t.unassigned ≡ u.unassigned)

abbrev pub AreSameSums : Sum → Sum → Type 0
AreSameSums s t = HaveSameTotals s.totals t.totals × (s.notes ≡ t.notes)
