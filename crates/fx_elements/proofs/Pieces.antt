-- Pieces of a text and the groups that they spell, one after another.
use Rattle.std.proofs.Common.{◌≡◌, ℕ, suc, ◌+◌, ◌*◌, ◌<◌, Bool, true, false, eqb, cond, List, [], ◌∷◌, length, Option, Some, None, refl, ap, sym, ◌∙◌, arith, inl, inr, eqb-true}
use Rattle.std.proofs.lemmas.Bool.{lt-leb}
use Rattle.fx_elements.specs.declared.address6.Side.{Side}
use Rattle.fx_elements.specs.Spelling.{◌>>=◌, cut_at, put_before}
use Rattle.fx_elements.specs.Address6.{any_group_of, put_first, pieces, last_of, groups_in, side_of, no_groups, side_with}
use Rattle.fx_elements.proofs.Cuts.{put_parts, chosen}
use Rattle.fx_elements.proofs.Addresses.{some_is}
use Rattle.fx_elements.proofs.Sizes.{groups_in_fit}

-- the first piece stands before the first colon
pub pieces_cut : (text : List ℕ) (p : List ℕ × List ℕ) → cut_at 58 text ≡ Some p → pieces text ≡ p.0 ∷ pieces p.1
unfolding pieces
pieces_cut [] p e = absurd cc
pieces_cut (b ∷ bs) p e = elim (chosen (eqb b 58) (Some ([], bs)) (put_before b (cut_at 58 bs)) (Some p) e) [
  | inl h ↦ let k : ([], bs) ≡ p = some_is h.1 in rw h.0 (ap (λ (q : List ℕ × List ℕ). q.0 ∷ pieces q.1) k)
  | inr h ↦ let q = put_parts b (cut_at 58 bs) p h.1 in
      rw h.0 (ap (put_first b) (pieces_cut bs q.0 q.1) ∙ ap (λ (r : List ℕ × List ℕ). r.0 ∷ pieces r.1) (sym q.2))
]

put_none : (b : ℕ) (o : Option (List ℕ × List ℕ)) → put_before b o ≡ None → o ≡ None
put_none b (Some p) e = absurd cc
put_none b None e = refl

pub pieces_whole : (text : List ℕ) → cut_at 58 text ≡ None → pieces text ≡ text ∷ []
unfolding pieces
pieces_whole [] e = refl
pieces_whole (b ∷ bs) e = elim (chosen (eqb b 58) (Some ([], bs)) (put_before b (cut_at 58 bs)) None e) [
  | inl h ↦ absurd cc
  | inr h ↦ rw (h.0, pieces_whole bs (put_none b (cut_at 58 bs) h.1)) refl
]

pub pieces_some : (text : List ℕ) → (p : List ℕ) × (ps : List (List ℕ)) × (pieces text ≡ p ∷ ps)
unfolding pieces
pieces_some [] = ([], [], refl)
pieces_some (b ∷ bs) =
    let q = pieces_some bs in
    first b (eqb b 58) bs q.0 q.1 q.2 where
      first : (b : ℕ) (t : Bool) (bs p : List ℕ) (ps : List (List ℕ)) → pieces bs ≡ p ∷ ps → (r : List ℕ)
          × (rs : List (List ℕ)) × (cond t ([] ∷ pieces bs) (put_first b (pieces bs)) ≡ r ∷ rs)
      first b true bs p ps e = ([], pieces bs, refl)
      first b false bs p ps e = (b ∷ p, ps, ap (put_first b) e)

-- a group, and the groups of the pieces behind it
pub groups_more : (ends : Bool) (p text : List ℕ) → groups_in ends (p ∷ pieces text)
    ≡ (any_group_of p >>= λ g. groups_in ends (pieces text) >>= λ gs. Some (g ∷ gs))
unfolding groups_in
groups_more ends p text = let q = pieces_some text in rw q.2 refl

-- ---- sides as they are counted up

abbrev pub with_group : Side → ℕ → Side
with_group side g = record { count = side.count + 1; value = side.value * 65536 + g }

joined_more : (side : Side) (g : ℕ) (o : Option (List ℕ)) → side_with side (o >>= λ gs. Some (g ∷ gs))
    ≡ side_with (with_group side g) o
unfolding side_with
joined_more side g None = refl
joined_more side g (Some gs) = let e : side.count + suc (length gs) ≡ side.count + 1 + length gs = omega arith in
    rw e refl

pub side_more : (ends : Bool) (side : Side) (rest : List ℕ) (p : List ℕ × List ℕ) (g : ℕ) → cut_at 58 rest ≡ Some p
    → any_group_of p.0 ≡ Some g → side_with side (groups_in ends (pieces rest))
    ≡ side_with (with_group side g) (groups_in ends (pieces p.1))
side_more ends side rest p g cut is = rw (pieces_cut rest p cut, groups_more ends p.0 p.1, is)
    (joined_more side g (groups_in ends (pieces p.1)))

pub side_stuck : (ends : Bool) (side : Side) (rest : List ℕ) (p : List ℕ × List ℕ) → cut_at 58 rest ≡ Some p
    → any_group_of p.0 ≡ None → side_with side (groups_in ends (pieces rest)) ≡ None
unfolding side_with
side_stuck ends side rest p cut is = rw (pieces_cut rest p cut, groups_more ends p.0 p.1, is) refl

pub side_last : (ends : Bool) (side : Side) (rest : List ℕ) → cut_at 58 rest ≡ None
    → side_with side (groups_in ends (pieces rest)) ≡ side_with side (last_of ends rest)
unfolding groups_in
side_last ends side rest cut = rw (pieces_whole rest cut) refl

-- a ninth group is one too many
past_eight : (side : Side) (o : Option (List ℕ)) → side.count ≡ 8 → ((gs : List ℕ) → o ≡ Some gs → 0 < length gs)
    → side_with side o ≡ None
unfolding side_with
past_eight side None full h = refl
past_eight side (Some gs) full h = let some = h gs refl in
    rw (lt-leb (side.count + length gs) 8 (omega (arith, full, some))) refl

pub side_full : (ends : Bool) (side : Side) (rest : List ℕ) → side.count ≡ 8
    → side_with side (groups_in ends (pieces rest)) ≡ None
side_full ends side rest full =
    let q = pieces_some rest in
    rw q.2 (past_eight side (groups_in ends (q.0 ∷ q.1)) full (λ gs e. (groups_in_fit ends q.0 q.1 gs e).1))

-- ---- where a side begins

pub side_empty : (ends : Bool) (text : List ℕ) → eqb (length text) 0 ≡ true → side_with no_groups (side_of ends text)
    ≡ Some no_groups
unfolding side_of side_with
side_empty ends [] e = refl
side_empty ends (b ∷ bs) e = let no = eqb-true (suc (length bs)) 0 e in absurd (omega (arith, no))

pub side_begins : (ends : Bool) (text : List ℕ) → eqb (length text) 0 ≡ false → side_of ends text
    ≡ groups_in ends (pieces text)
unfolding side_of
side_begins ends [] e = absurd cc
side_begins ends (b ∷ bs) e = refl
