-- What the tables show after one of their rows has changed.
use Rattle.std.proofs.Common.{◌≡◌, ℕ, suc, pred, ◌+◌, ◌≤◌, Bool, true, false, cond, not, ◌&&◌, eqb, ltb, List, [], ◌∷◌, length, is_some, Some, None, Option, sym, refl, ap, ◌∙◌, subst, arith, length-set, is_none, position}
use Rattle.std.specs.Option.{option_map, option_flatten}
use Rattle.std.specs.Str.{bytes_eq}
use Rattle.std.proofs.lemmas.Bool.{cond-true, cond-false, and_right, and_from, lt-ltb, le-ltb, eqb-true}
use Rattle.std.proofs.lemmas.List.Sums.{count_by-le-length}
use Rattle.std.proofs.lemmas.Bool.Decides.{Decides-eqb}
use Rattle.std.proofs.lemmas.Option.{none-some, same_Some}
use Rattle.std.proofs.lemmas.Slice.Eq.{bytes_eq-Decides}
use Rattle.table.specs.Lookup.{bears, in_use, placed, row_at, row_found}
use Rattle.table.specs.Laws.{NoneFound, OneMore, OneLess, Others}
use Rattle.table.proofs.Places.{length-placed, vacant-none}
use Rattle.table.proofs.Frees.{full-position}
use Rattle.table.proofs.Keys.{found-position, lookup-position}
use Rattle.model.specs.Wafers.{Text, Wafer as Kept}
use Rattle.model.specs.Places.{Plan, put_text, put_code}
use Rattle.texts.specs.Meaning.{called}
use Rattle.values.specs.Values.{coded}
use Rattle.wafers.specs.declared.wafer.Wafer.{Wafer}
use Rattle.wafers.specs.declared.place.Place.{Place}
use Rattle.wafers.specs.Held.{held}
use Rattle.wafers.specs.Spots.{plan, spot_of, occupant_of}
use Rattle.wafers.specs.Views.{wafer_row, place_row, wafers_of, occupants_of}
use Rattle.wafers.proofs.Views.{shown_put}
use Rattle.wafers.proofs.Plans.{occupied_mapped, plan-set, plan-sites}
use Rattle.cabinet.specs.Views.{View, Changed, ChangedAt, notes_of, view_of, stored, inserted, removed}

abbrev id_of : Wafer → Text
id_of w = called w.id

-- whether a wafer is registered, by the position found for it
pub registered-at : (rows : List (Option Wafer)) (k : Text) → is_some (wafers_of rows k) ≡ is_some (position (bears id_of bytes_eq k) rows)
registered-at rows k = occupied_mapped held (wafer_row rows k) ∙ found-position id_of bytes_eq rows k

-- a wafer that is found at no position is not registered
pub absent : (rows : List (Option Wafer)) (k m : Text) (r : Option ℕ) → m ≡ k → NoneFound id_of bytes_eq m rows r → is_some r ≡ false → wafer_row rows k ≡ None
absent rows k m r e n s = subst (λ t. wafer_row rows t ≡ None) e (n.1 (vacant-none r (ap not s)))

module _ {N : Type 0} where
  abbrev with_wafers : (Text → Option Kept) → ℕ → ℕ → List (Option (Place N)) → View N
  with_wafers f u n places = record { contents = record { wafer = f; used = u; occupant = occupants_of places }; plan = plan places; notes = notes_of places; rows = n }

  wafers_path : (f g : Text → Option Kept) (u v n m : ℕ) (places : List (Option (Place N))) → f ≡ g → u ≡ v → n ≡ m → with_wafers f u n places ≡ with_wafers g v m places
  wafers_path f g u v n m places a b c = λ i. with_wafers (a i) (b i) (c i) places

  pub stored_shows : (wafers wafers' : List (Option Wafer)) (places : List (Option (Place N))) (w : Wafer) (r : Option ℕ)
      → r ≡ position (bears id_of bytes_eq (id_of w)) wafers → wafers' ≡ placed wafers (Some w) r → in_use wafers' ≡ in_use wafers
      → (is_some r ≡ true → wafer_row wafers' (id_of w) ≡ Some w) → Others id_of bytes_eq (id_of w) wafers wafers'
      → view_of wafers' places ≡ stored (id_of w) (held w) (view_of wafers places)
  stored_shows wafers wafers' places w None p e u own others =
      ap (λ ws. view_of ws places) e ∙ sym (cond-false (is_some (wafers_of wafers (id_of w))) _ _ (registered-at wafers (id_of w) ∙ ap is_some (sym p)))
  stored_shows wafers wafers' places w (Some i) p e u own others =
      wafers_path (wafers_of wafers') (put_text (id_of w) (Some (held w)) (wafers_of wafers)) _ _ _ _ places
      (shown_put bytes_eq bytes_eq-Decides (option_map held) (wafer_row wafers') (wafer_row wafers) (id_of w) others (Some w) (own refl)) u (ap length e ∙ length-set wafers i (Some w))
      ∙ sym (cond-true (is_some (wafers_of wafers (id_of w))) _ _ (registered-at wafers (id_of w) ∙ ap is_some (sym p)))

  pub inserted_shows : (wafers wafers' : List (Option Wafer)) (places : List (Option (Place N))) (w : Wafer) (r : Option ℕ)
      → wafer_row wafers (id_of w) ≡ None
      → r ≡ position is_none wafers → wafers' ≡ placed wafers (Some w) r → OneMore wafers wafers' r
      → (is_some r ≡ true → wafer_row wafers (id_of w) ≡ None → wafer_row wafers' (id_of w) ≡ Some w) → Others id_of bytes_eq (id_of w) wafers wafers'
      → view_of wafers' places ≡ inserted (id_of w) (held w) (view_of wafers places)
  inserted_shows wafers wafers' places w r n p e u own others = go r p e u own
    where
      unknown : is_none (wafers_of wafers (id_of w)) ≡ true
      unknown = ap (λ o. is_none (option_map held o)) n

      go : (r : Option ℕ) → r ≡ position is_none wafers → wafers' ≡ placed wafers (Some w) r → OneMore wafers wafers' r
          → (is_some r ≡ true → wafer_row wafers (id_of w) ≡ None → wafer_row wafers' (id_of w) ≡ Some w)
          → view_of wafers' places ≡ inserted (id_of w) (held w) (view_of wafers places)
      go None p e u own =
          let full : in_use wafers ≡ length wafers = (full-position wafers).0 (sym p) in
          ap (λ ws. view_of ws places) e
          ∙ sym (cond-false (is_none (wafers_of wafers (id_of w)) && ltb (in_use wafers) (length wafers)) _ _ (and_right (is_none (wafers_of wafers (id_of w))) (ltb (in_use wafers) (length wafers)) (le-ltb (in_use wafers) (length wafers) (omega arith))))
      go (Some i) p e u own =
          let most : in_use wafers ≤ length wafers = count_by-le-length is_some wafers in
          let open_row : in_use wafers ≡ length wafers → ⊥ = λ x. absurd (none-some i (sym (p ∙ (full-position wafers).1 x))) in
          wafers_path (wafers_of wafers') (put_text (id_of w) (Some (held w)) (wafers_of wafers)) (in_use wafers') (suc (in_use wafers)) _ _ places
          (shown_put bytes_eq bytes_eq-Decides (option_map held) (wafer_row wafers') (wafer_row wafers) (id_of w) others (Some w) (own refl n)) (u ∙ omega arith) (ap length e ∙ length-set wafers i (Some w))
          ∙ sym (cond-true (is_none (wafers_of wafers (id_of w)) && ltb (in_use wafers) (length wafers)) _ _ (and_from _ _ unknown (lt-ltb (in_use wafers) (length wafers) (omega (arith, most, open_row)))))

  pub removed_shows : (wafers wafers' : List (Option Wafer)) (places : List (Option (Place N))) (k : Text) (r : Option Wafer) (at : Option ℕ)
      → r ≡ wafer_row wafers k → wafers' ≡ placed wafers None at → OneLess wafers wafers' r → wafer_row wafers' k ≡ None → Others id_of bytes_eq k wafers wafers'
      → view_of wafers' places ≡ removed k (view_of wafers places)
  removed_shows wafers wafers' places k None at p e u own others =
      ap (λ ws. view_of ws places) u ∙ sym (cond-false (is_some (wafers_of wafers k)) _ _ (occupied_mapped held (wafer_row wafers k) ∙ ap is_some (sym p)))
  removed_shows wafers wafers' places k (Some w) at p e u own others =
      wafers_path (wafers_of wafers') (put_text k None (wafers_of wafers)) (in_use wafers') (pred (in_use wafers)) _ _ places
      (shown_put bytes_eq bytes_eq-Decides (option_map held) (wafer_row wafers') (wafer_row wafers) k others None own) (less (in_use wafers') (in_use wafers) u) (ap length e ∙ length-placed wafers None at)
      ∙ sym (cond-true (is_some (wafers_of wafers k)) _ _ (occupied_mapped held (wafer_row wafers k) ∙ ap is_some (sym p)))
    where
      less : (a b : ℕ) → a + 1 ≡ b → a ≡ pred b
      less a b x = omega arith

  -- places

  abbrev code_of : Place N → ℕ
  code_of p = coded p.code

  -- another row in the place of one with the same code and kind
  plan-kept : (places places' : List (Option (Place N))) (p : ℕ) (old new : Place N) (r : Option ℕ) → r ≡ position (bears code_of eqb p) places → place_row places p ≡ Some old → places' ≡ placed places (Some new) r → spot_of new ≡ spot_of old → plan places' ≡ plan places
  plan-kept places places' p old new None a b e s = ap plan e
  plan-kept places places' p old new (Some i) a b e s =
      let at_i : row_at places i ≡ Some old = ap (row_found places) a ∙ sym (lookup-position code_of eqb places p) ∙ b in
      ap plan e ∙ plan-set places i (Some new) (ap Some s ∙ ap (option_map spot_of) (sym at_i))

  abbrev with_places : List (Option Wafer) → (ℕ → Option Text) → Plan → (ℕ → Option N) → View N
  with_places wafers o ps ns = record { contents = record { wafer = wafers_of wafers; used = in_use wafers; occupant = o }; plan = ps; notes = ns; rows = length wafers }

  places_path : (wafers : List (Option Wafer)) (o o' : ℕ → Option Text) (ps ps' : Plan) (ns ns' : ℕ → Option N) → o ≡ o' → ps ≡ ps' → ns ≡ ns' → with_places wafers o ps ns ≡ with_places wafers o' ps' ns'
  places_path wafers o o' ps ps' ns ns' a b c = λ i. with_places wafers (a i) (b i) (c i)

  -- a place that gave way to another
  pub changed_shows : (R : Place N → Place N → Type 0) (wafers : List (Option Wafer)) (places places' : List (Option (Place N))) (p : ℕ) (old new : Place N) (r : Option ℕ)
      → R old new → r ≡ position (bears code_of eqb p) places → place_row places p ≡ Some old → places' ≡ placed places (Some new) r
      → place_row places' p ≡ Some new → Others code_of eqb p places places' → spot_of new ≡ spot_of old
      → Changed R p (view_of wafers places) (view_of wafers places')
  changed_shows R wafers places places' p old new r k a b e own others s =
      subst (ChangedAt R p (view_of wafers places) (view_of wafers places')) (sym (plan-sites places p ∙ ap (option_map spot_of) b)) (
        old,
        new,
        k,
        ap (λ q. option_flatten (option_map occupant_of q)) b,
        ap (option_map (λ q. q.note)) b,
        places_path wafers (occupants_of places') (put_code p (occupant_of new) (occupants_of places)) (plan places') (plan places) (notes_of places') (put_code p (Some new.note) (notes_of places))
            (shown_put eqb Decides-eqb (λ q. option_flatten (option_map occupant_of q)) (place_row places') (place_row places) p others (Some new) own)
            (plan-kept places places' p old new r a b e s)
            (shown_put eqb Decides-eqb (option_map (λ q. q.note)) (place_row places') (place_row places) p others (Some new) own),
      )

  pub unchanged_shows : (R : Place N → Place N → Type 0) (wafers : List (Option Wafer)) (places : List (Option (Place N))) (p : ℕ) → place_row places p ≡ None → Changed R p (view_of wafers places) (view_of wafers places)
  unchanged_shows R wafers places p b = subst (ChangedAt R p (view_of wafers places) (view_of wafers places)) (sym (plan-sites places p ∙ ap (option_map spot_of) b)) refl

  -- a row found by its code has the code, and so has one in its place
  pub replaced_key : (places : List (Option (Place N))) (p : ℕ) (o : Option (Place N)) (old new : Place N) → o ≡ place_row places p → o ≡ Some old → spot_of new ≡ spot_of old → (place_row places p ≡ Some old) × (coded new.code ≡ p)
  replaced_key places p o old new v e s = (sym v ∙ e, ap (λ x. x.code) s ∙ found_code places (sym v ∙ e))
    where
      found_code : (places : List (Option (Place N))) → place_row places p ≡ Some old → coded old.code ≡ p
      found_code [] e = absurd (none-some old e)
      found_code (None ∷ places) e = found_code places e
      found_code (Some q ∷ places) e = go (eqb (coded q.code) p) refl (found_code places) e
        where
          go : (b : Bool) → eqb (coded q.code) p ≡ b → (place_row places p ≡ Some old → coded old.code ≡ p) → cond b (Some q) (place_row places p) ≡ Some old → coded old.code ≡ p
          go true x again e = ap (λ (r : Place N). coded r.code) (sym (same_Some q old e)) ∙ eqb-true (coded q.code) p x
          go false x again e = again e

  -- a row that is found has a position
  pub there : (places : List (Option (Place N))) (p : ℕ) (old : Place N) (r : Option ℕ) → place_row places p ≡ Some old → r ≡ position (bears code_of eqb p) places → is_some r ≡ true
  there places p old r e a = ap is_some a ∙ sym (found-position code_of eqb places p) ∙ ap is_some e
