use Rattle.std.proofs.Common.{◌≡◌, ◌≤◌, ◌*◌, drop}
use Rattle.fx_session.specs.Places.{is_sought, place_where}
use Rattle.fx_session.proofs.places.place_of.Given as goal

-- what is sought stands where it stands in the fields that are left
abbrev pub invariant-loop-place : goal.invariant-loop-place
invariant-loop-place l = record {
  bound : l.start ≤ l.place * 65535;
  same : place_where (is_sought l.sought) 0 l.fields ≡ place_where (is_sought l.sought) l.start (drop l.place l.fields);
}
