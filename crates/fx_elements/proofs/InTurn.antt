-- Pieces of a text: cut first and read then, or each read as soon as it is cut.
use Rattle.std.proofs.Common.{◌≡◌, ℕ, zero, suc, ◌+◌, ◌*◌, List, Option, Some, None, option_map, refl, ap, ◌∙◌, arith}
use Rattle.std.specs.Option.{option_and_then}
use Rattle.fx_elements.specs.Groups.{group_of, groups_of}
use Rattle.fx_elements.specs.Spelling.{◌>>=◌, cut_at, number_of, quad_of}

module _ (cut : List ℕ → Option (List ℕ × List ℕ)) (piece : List ℕ → Option ℕ) (base : ℕ) where
  abbrev behind : Option ℕ → List ℕ → Option ℕ
  behind value text = do
    v ← value
    digit ← piece text
    Some (v * base + digit)

  -- so many pieces cut, and one more left
  abbrev cut_first : ℕ → List ℕ → Option ℕ → Option ℕ
  cut_first zero text value = behind value text
  cut_first (suc n) text value = do
    p ← cut text
    cut_first n p.1 (behind value p.0)

  abbrev in_turn : ℕ → List ℕ → ℕ → Option ℕ
  in_turn zero text v = behind (Some v) text
  in_turn (suc n) text v = do
    p ← cut text
    digit ← piece p.0
    in_turn n p.1 (v * base + digit)

  none_read : (n : ℕ) (text : List ℕ) → cut_first n text None ≡ None
  none_read zero text = refl
  none_read (suc n) text = by_cut (cut text) (none_read n) where
    by_cut : (o : Option (List ℕ × List ℕ)) → ((rest : List ℕ) → cut_first n rest None ≡ None)
        → (o >>= λ p. cut_first n p.1 None) ≡ None
    by_cut None none = refl
    by_cut (Some p) none = none p.1

  pub same_read : (n : ℕ) (text : List ℕ) (v : ℕ) → cut_first n text (Some v) ≡ in_turn n text v
  same_read zero text v = refl
  same_read (suc n) text v = by_cut (cut text) (same_read n) where
    by_piece : (rest : List ℕ) (o : Option ℕ) → ((w : ℕ) → cut_first n rest (Some w) ≡ in_turn n rest w)
        → cut_first n rest (o >>= λ digit. Some (v * base + digit)) ≡ (o >>= λ digit. in_turn n rest (v * base + digit))
    by_piece rest None same = none_read n rest
    by_piece rest (Some digit) same = same (v * base + digit)

    by_cut : (o : Option (List ℕ × List ℕ)) → ((rest : List ℕ) (w : ℕ) → cut_first n rest (Some w) ≡ in_turn n rest w)
        → (o >>= λ p. cut_first n p.1 (behind (Some v) p.0))
        ≡ (o >>= λ p. piece p.0 >>= λ digit. in_turn n p.1 (v * base + digit))
    by_cut None same = refl
    by_cut (Some p) same = by_piece p.1 (piece p.0) (same p.1)

bind_same : {A B : Type 0} (o : Option A) (f g : A → Option B) → ((x : A) → f x ≡ g x) → (o >>= f) ≡ (o >>= g)
bind_same None f g same = refl
bind_same (Some x) f g same = same x

-- ---- an address of IPv6

abbrev next_group : Option ℕ → Option ℕ → Option ℕ
next_group value group = do
  v ← value
  g ← group
  Some (v * 65536 + g)

eight : (s t u v w x y z : Option ℕ) → (s >>= λ a. t >>= λ b. u >>= λ c. v >>= λ d. w >>= λ e. x >>= λ f. y >>= λ g. z
    >>= λ h. Some (((((((a * 65536 + b) * 65536 + c) * 65536 + d) * 65536 + e) * 65536 + f) * 65536 + g) * 65536 + h))
    ≡ next_group (next_group (next_group (next_group
    (next_group (next_group (next_group (next_group (Some 0) s) t) u) v) w) x) y) z
eight None t u v w x y z = refl
eight (Some a) None u v w x y z = refl
eight (Some a) (Some b) None v w x y z = refl
eight (Some a) (Some b) (Some c) None w x y z = refl
eight (Some a) (Some b) (Some c) (Some d) None x y z = refl
eight (Some a) (Some b) (Some c) (Some d) (Some e) None y z = refl
eight (Some a) (Some b) (Some c) (Some d) (Some e) (Some f) None z = refl
eight (Some a) (Some b) (Some c) (Some d) (Some e) (Some f) (Some g) None = refl
eight (Some a) (Some b) (Some c) (Some d) (Some e) (Some f) (Some g) (Some h) = let first : 0 * 65536 + a ≡ a =
    omega arith in rw first refl

abbrev pub groups_left : ℕ → List ℕ → ℕ → Option ℕ
groups_left n text v = in_turn (cut_at 58) group_of 65536 n text v

pub groups_begin : (text : List ℕ) → groups_of text ≡ groups_left 7 text 0
unfolding groups_of
groups_begin text =
    bind_same (cut_at 58 text) _ _ (λ a.
    bind_same (cut_at 58 a.1) _ _ (λ b.
    bind_same (cut_at 58 b.1) _ _ (λ c.
    bind_same (cut_at 58 c.1) _ _ (λ d.
    bind_same (cut_at 58 d.1) _ _ (λ e.
    bind_same (cut_at 58 e.1) _ _ (λ f.
    bind_same (cut_at 58 f.1) _ _ (λ g.
    eight (group_of a.0) (group_of b.0) (group_of c.0) (group_of d.0) (group_of e.0) (group_of f.0) (group_of g.0)
    (group_of g.1)))))))) ∙ same_read (cut_at 58) group_of 65536 7 text 0

pub group_more : (n : ℕ) (text : List ℕ) (v : ℕ) (p : List ℕ × List ℕ) (g : ℕ) → cut_at 58 text ≡ Some p → group_of p.0
    ≡ Some g → groups_left (suc n) text v ≡ groups_left n p.1 (v * 65536 + g)
group_more n text v p g cut group = rw (cut, group) refl

pub group_uncut : (n : ℕ) (text : List ℕ) (v : ℕ) → cut_at 58 text ≡ None → groups_left (suc n) text v ≡ None
group_uncut n text v cut = rw cut refl

pub group_unread : (n : ℕ) (text : List ℕ) (v : ℕ) (p : List ℕ × List ℕ) → cut_at 58 text ≡ Some p → group_of p.0 ≡ None
    → groups_left (suc n) text v ≡ None
group_unread n text v p cut group = rw (cut, group) refl

pub group_last : (text : List ℕ) (v : ℕ) (o : Option ℕ) → group_of text ≡ o → groups_left 0 text v
    ≡ option_map (λ g. v * 65536 + g) o
group_last text v o group = by_group (group_of text) o group where
  by_group : (read o : Option ℕ) → read ≡ o → next_group (Some v) read ≡ option_map (λ g. v * 65536 + g) o
  by_group None o is = ap (option_map (λ g. v * 65536 + g)) is
  by_group (Some g) o is = ap (option_map (λ g. v * 65536 + g)) is

-- ---- a dotted quad

abbrev with_rest : List ℕ → Option ℕ → Option (ℕ × List ℕ)
with_rest rest o = option_map (λ n. (n, rest)) o

abbrev pub first_octet : List ℕ → Option (ℕ × List ℕ)
first_octet text = option_and_then (λ p. with_rest p.1 (number_of 255 p.0)) (cut_at 46 text)

abbrev pub octets_left : ℕ → List ℕ → ℕ → Option ℕ
octets_left n text v = in_turn (cut_at 46) (number_of 255) 256 n text v

by_octet : (text : List ℕ) (f : ℕ → List ℕ → Option ℕ) → (cut_at 46 text >>= λ p. number_of 255 p.0 >>= λ x. f x p.1)
    ≡ (first_octet text >>= λ q. f q.0 q.1)
by_octet text f = by_cut (cut_at 46 text) where
  by_number : (rest : List ℕ) (o : Option ℕ) → (o >>= λ x. f x rest) ≡ (with_rest rest o >>= λ q. f q.0 q.1)
  by_number rest None = refl
  by_number rest (Some x) = refl

  by_cut : (o : Option (List ℕ × List ℕ)) → (o >>= λ p. number_of 255 p.0 >>= λ x. f x p.1)
      ≡ (option_and_then (λ p. with_rest p.1 (number_of 255 p.0)) o >>= λ q. f q.0 q.1)
  by_cut None = refl
  by_cut (Some p) = by_number p.1 (number_of 255 p.0)

abbrev next_octet : Option ℕ → Option ℕ → Option ℕ
next_octet value octet = do
  v ← value
  n ← octet
  Some (v * 256 + n)

four : (w x y z : Option ℕ) → (w >>= λ a. x >>= λ b. y >>= λ c. z >>= λ d. Some (((a * 256 + b) * 256 + c) * 256 + d))
    ≡ next_octet (next_octet (next_octet w x) y) z
four None x y z = refl
four (Some a) None y z = refl
four (Some a) (Some b) None z = refl
four (Some a) (Some b) (Some c) None = refl
four (Some a) (Some b) (Some c) (Some d) = refl

first_read : (text : List ℕ) (o : Option ℕ) → cut_first (cut_at 46) (number_of 255) 256 2 text o
    ≡ (o >>= λ w. octets_left 2 text w)
first_read text None = none_read (cut_at 46) (number_of 255) 256 2 text
first_read text (Some w) = same_read (cut_at 46) (number_of 255) 256 2 text w

quad_begins : (text : List ℕ) → quad_of text ≡ (first_octet text >>= λ a. octets_left 2 a.1 a.0)
unfolding quad_of
quad_begins text =
    bind_same (cut_at 46 text) _ _ (λ a.
    bind_same (cut_at 46 a.1) _ _ (λ b.
    bind_same (cut_at 46 b.1) _ _ (λ c.
    four (number_of 255 a.0) (number_of 255 b.0) (number_of 255 c.0) (number_of 255 c.1)))
    ∙ first_read a.1 (number_of 255 a.0))
    ∙ by_octet text (λ w rest. octets_left 2 rest w)

quad_next : (n : ℕ) (text : List ℕ) (v : ℕ) → octets_left (suc n) text v
    ≡ (first_octet text >>= λ b. octets_left n b.1 (v * 256 + b.0))
quad_next n text v = by_octet text (λ x rest. octets_left n rest (v * 256 + x))

pub first_step : (text : List ℕ) (o : Option (ℕ × List ℕ)) → first_octet text ≡ o → quad_of text
    ≡ (o >>= λ a. octets_left 2 a.1 a.0)
first_step text o is = quad_begins text ∙ ap (λ x. x >>= λ a. octets_left 2 a.1 a.0) is

pub next_step : (n : ℕ) (text : List ℕ) (v : ℕ) (o : Option (ℕ × List ℕ)) → first_octet text ≡ o
    → octets_left (suc n) text v ≡ (o >>= λ b. octets_left n b.1 (v * 256 + b.0))
next_step n text v o is = quad_next n text v ∙ ap (λ x. x >>= λ b. octets_left n b.1 (v * 256 + b.0)) is

pub last_step : (text : List ℕ) (v : ℕ) (o : Option ℕ) → number_of 255 text ≡ o → octets_left 0 text v
    ≡ option_map (λ n. v * 256 + n) o
last_step text v o is = by_number (number_of 255 text) o is where
  by_number : (read o : Option ℕ) → read ≡ o → next_octet (Some v) read ≡ option_map (λ n. v * 256 + n) o
  by_number None o is = ap (option_map (λ n. v * 256 + n)) is
  by_number (Some d) o is = ap (option_map (λ n. v * 256 + n)) is
