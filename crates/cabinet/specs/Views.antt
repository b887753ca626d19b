-- What the tables of one party show, and what each change makes of it.
use Rattle.std.specs.Prelude.{◌≡◌, ℕ, suc, pred, cond, ◌&&◌, List, length, Some, None, Option, nat_lt, is_some, is_none}
use Rattle.std.specs.Option.{option_map}
use Rattle.model.specs.Wafers.{Text, Wafer as Kept}
use Rattle.model.specs.Places.{Plan, Spot, sites, listed, Contents, put_text, put_code}
use Rattle.wafers.specs.declared.wafer.Wafer.{Wafer}
use Rattle.wafers.specs.declared.place.Place.{Place}
use Rattle.wafers.specs.Spots.{occupant_of, plan}
use Rattle.wafers.specs.Views.{place_row, contents_of}
use Rattle.cabinet.specs.declared.cabinet.Cabinet.{Cabinet}

-- the record, the place list, what is noted at each place, and the number of wafer rows
pub record View (N : Type 0) : Type 0 where
  pub contents : Contents
  pub plan : Plan
  pub notes : ℕ → Option N
  pub rows : ℕ

abbrev pub notes_of : {N : Type 0} → List (Option (Place N)) → ℕ → Option N
notes_of rows p = option_map (λ r. r.note) (place_row rows p)

abbrev pub view_of : {N : Type 0} → List (Option Wafer) → List (Option (Place N)) → View N
view_of wafers places = record { contents = contents_of wafers places; plan = plan places; notes = notes_of places; rows = length wafers }

abbrev pub view : {N : Type 0} → Cabinet N → View N
view c = view_of c.wafers.rows.now c.places.rows.now

abbrev pub with_contents : {N : Type 0} → Contents → View N → View N
with_contents c v = record { contents = c; plan = v.plan; notes = v.notes; rows = v.rows }

-- the wafer's row holds this, if it is registered
abbrev pub stored : {N : Type 0} → Text → Kept → View N → View N
stored id w v = cond (is_some (v.contents.wafer id)) (with_contents (record { wafer = put_text id (Some w) v.contents.wafer; used = v.contents.used; occupant = v.contents.occupant }) v) v

-- the wafer gets a row, if it is not registered and a row is free
abbrev pub inserted : {N : Type 0} → Text → Kept → View N → View N
inserted id w v =
    cond (is_none (v.contents.wafer id) && nat_lt v.contents.used v.rows)
    (with_contents (record { wafer = put_text id (Some w) v.contents.wafer; used = suc v.contents.used; occupant = v.contents.occupant }) v) v

-- the wafer's row is free, if it is registered
abbrev pub removed : {N : Type 0} → Text → View N → View N
removed id v = cond (is_some (v.contents.wafer id)) (with_contents (record { wafer = put_text id None v.contents.wafer; used = pred v.contents.used; occupant = v.contents.occupant }) v) v

-- the place has this occupant, if it is listed
abbrev pub occupied_by : {N : Type 0} → ℕ → Option Text → View N → View N
occupied_by p o v = cond (listed (sites v.plan) p) (with_contents (record { wafer = v.contents.wafer; used = v.contents.used; occupant = put_code p o v.contents.occupant }) v) v

-- this is noted at the place, if it is listed
abbrev pub noted : {N : Type 0} → ℕ → N → View N → View N
noted p n v = cond (listed (sites v.plan) p) (record { contents = v.contents; plan = v.plan; notes = put_code p (Some n) v.notes; rows = v.rows }) v

-- the place has no occupant; one that is not listed has none anyway
abbrev pub vacated : {N : Type 0} → ℕ → View N → View N
vacated p v = with_contents (record { wafer = v.contents.wafer; used = v.contents.used; occupant = put_code p None v.contents.occupant }) v

-- both tables stand over the rows that were lent to them
abbrev pub SameRows : {N : Type 0} → Cabinet N → Cabinet N → Type 0
SameRows c c' = (c'.wafers.rows.ghost_name ≡ c.wafers.rows.ghost_name) × (c'.places.rows.ghost_name ≡ c.places.rows.ghost_name)

-- the place has this occupant, and this is noted there
abbrev pub with_place : {N : Type 0} → ℕ → Option Text → N → View N → View N
with_place p o n v = record { contents = record { wafer = v.contents.wafer; used = v.contents.used; occupant = put_code p o v.contents.occupant }; plan = v.plan; notes = put_code p (Some n) v.notes; rows = v.rows }

-- the place, if it is listed, gave way to one that the relation allows
abbrev pub ChangedAt : {N : Type 0} → (Place N → Place N → Type 0) → ℕ → View N → View N → Option Spot → Type 0
ChangedAt R p v v' None = v' ≡ v
ChangedAt {N} R p v v' (Some s) = (q r : Place N) × R q r × (v.contents.occupant p ≡ occupant_of q) × (v.notes p ≡ Some q.note) × (v' ≡ with_place p (occupant_of r) r.note v)

abbrev pub Changed : {N : Type 0} → (Place N → Place N → Type 0) → ℕ → View N → View N → Type 0
Changed R p v v' = ChangedAt R p v v' (sites v.plan p)
