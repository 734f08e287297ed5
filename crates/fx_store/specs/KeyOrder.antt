-- The order of keys is total and distinguishes all keys.
use Rattle.std.proofs.Common.{◌≡◌, ℕ, true, List, ap, ap₂, subst, eq-eqb}
use Rattle.std.specs.Bool.{Decides, one_answer}
use Rattle.std.specs.Ordering.{nat_cmp, is_eq, eq_by_cmp}
use Rattle.std.specs.Cmp.{IsTotalOrder, IsEquivalence, nat_cmp_total, on_total, then_total, decided, Equal-is, tied_itself}
use Rattle.std.specs.Cmp.Lexicographic.{slice_cmp, nat_list_cmp_total, lists_total}
use Rattle.std.specs.FinMap.{IsAntisymmetric, slice_cmp-IsAntisymmetric}
use Rattle.std.specs.Hash.{HashWrites, slice, u128}
use Rattle.std.proofs.lemmas.Map.Lookups.{exact_pairs, exact_unsigned, exact_bytes}
use Rattle.fx_elements.specs.declared.axis.Axis.{Axis}
use Rattle.fx_elements.specs.Axes.{axis_index}
use Rattle.fx_layout.specs.declared.layout.Part.{Part}
use Rattle.fx_layout.specs.Keys.{Layout, Key, same_key}
use Rattle.fx_elements.proofs.EveryAxis.{axis_is}
use Rattle.fx_layout.proofs.Projections.{same_key_is, same_key_decides}
use Rattle.fx_store.specs.Order.{part_cmp, layout_cmp, key_cmp}

-- ---- totality

part_cmp_total : IsTotalOrder part_cmp
part_cmp_total = then_total (on_total (λ (p : Part). axis_index p.axis) nat_cmp_total)
    (on_total (λ (p : Part). p.bits) nat_cmp_total)

pub key_cmp_total : IsTotalOrder key_cmp
key_cmp_total = then_total (on_total (λ (k : Key). k.values) nat_list_cmp_total)
    (on_total (λ (k : Key). k.layout) (lists_total part_cmp_total))

-- ---- only equal keys compare as equal

part_apart : IsAntisymmetric part_cmp
part_apart p q e =
    let two : ◌≡◌ {A = ℕ × ℕ} (axis_index p.axis, p.bits) (axis_index q.axis, q.bits) =
    exact_pairs nat_cmp nat_cmp exact_unsigned exact_unsigned (axis_index p.axis, p.bits)
    (axis_index q.axis, q.bits) e in
    let axis : p.axis ≡ q.axis = axis_is p.axis q.axis (eq-eqb _ _ (ap (λ (u : ℕ × ℕ). u.0) two)) in
    ap₂ (λ (x : Axis) (y : ℕ). record { axis = x; bits = y }) axis (ap (λ (u : ℕ × ℕ). u.1) two)

pub key_cmp_apart : IsAntisymmetric key_cmp
key_cmp_apart a b e =
    let two : ◌≡◌ {A = List ℕ × Layout} (a.values, a.layout) (b.values, b.layout) =
    exact_pairs (slice_cmp nat_cmp) layout_cmp exact_bytes (slice_cmp-IsAntisymmetric part_apart)
    (a.values, a.layout) (b.values, b.layout) e in
    ap₂ (λ (x : Layout) (y : List ℕ). record { layout = x; values = y }) (ap (λ (u : List ℕ × Layout). u.1) two)
    (ap (λ (u : List ℕ × Layout). u.0) two)

-- ---- the test for the same key

pub same_key_equiv : IsEquivalence same_key
same_key_equiv = decided same_key same_key_decides

key_cmp_decides : (a b : Key) → Decides (eq_by_cmp key_cmp a b) (a ≡ b)
key_cmp_decides a b = (
  λ e. key_cmp_apart a b ((Equal-is (key_cmp a b)).0 e),
  λ e. subst (λ (k : Key). eq_by_cmp key_cmp a k ≡ true) e
      (ap is_eq (tied_itself key_cmp_total a)),
)

-- two keys are the same if and only if they compare as equal
pub same_key_ties : (a b : Key) → same_key a b ≡ eq_by_cmp key_cmp a b
same_key_ties a b =
    let d = key_cmp_decides a b in
    let s = same_key_decides a b in
    one_answer (same_key a b) (eq_by_cmp key_cmp a b) s d

-- the data that a key writes to a hasher
abbrev pub hash_writes : Key → HashWrites
hash_writes k = slice u128 k.values

-- equal keys have equal hashes
pub hashes_alike : (a b : Key) → same_key a b ≡ true → hash_writes a ≡ hash_writes b
hashes_alike a b h = ap hash_writes (same_key_is a b h)
