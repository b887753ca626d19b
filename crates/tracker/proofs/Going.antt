-- The rows of a serving, one after the other.
use Rattle.std.proofs.Common.{◌≡◌, ℕ, Bool, true, false, cond, ◌&&◌, List, ◌++◌, Some, None, Option, sym, refl, ap, ◌∙◌}
use Rattle.std.proofs.lemmas.Option.{none-some}
use Rattle.std.specs.Option.{option_map}
use Rattle.model.specs.Wafers.{Text, Times, Wafer}
use Rattle.model.specs.Places.{Sites, Contents}
use Rattle.model.specs.Rows.{Change as Row, Exit as Gone, Row as Any, change, leave, can, can_from, may_change, changed, after, effect}
use Rattle.model.specs.Steps.{Step, can_all, perform}
use Rattle.model.proofs.Performing.{own_wafer}
use Rattle.tracker.specs.Served.{went, free_to_go, change_steps, exit_steps}

and_end : (b : Bool) → (b && true) ≡ b
and_end true = refl
and_end false = refl

module _ (at : Sites) (t : Times) (id : Text) where
  can_own : (c : Contents) (w : Wafer) (r : Any) → c.wafer id ≡ Some w → can at c id r ≡ can_from at c.occupant id (Some w) r
  can_own c w r e = ap (λ (o : Option Wafer). can_from at c.occupant id o r) e

  pub own_after : (c : Contents) (w : Wafer) (r : Any) → c.wafer id ≡ Some w → (effect t id r c).wafer id ≡ after t (Some w) r
  own_after c w r e = own_wafer t id r c ∙ ap (λ (o : Option Wafer). after t o r) e

  -- a change that is not open
  pub cannot : (c : Contents) (w : Wafer) (g : Option Row) (rest : List Step) → c.wafer id ≡ Some w → went at id w g ≡ None → can_all at t c (change_steps id g ++ rest) ≡ false
  cannot c w None rest e h = absurd (none-some w (sym h))
  cannot c w (Some g) rest e h = ap (λ b. b && can_all at t (effect t id (change g) c) rest) (can_own c w (change g) e ∙ go (may_change at id g w) refl h)
    where
      go : (b : Bool) → may_change at id g w ≡ b → cond b (Some (changed g w)) None ≡ None → b ≡ false
      go true x h = absurd (none-some (changed g w) (sym h))
      go false x h = refl

  -- one that is, or none at all
  pub can_on : (c : Contents) (w v : Wafer) (g : Option Row) (rest : List Step) → c.wafer id ≡ Some w → went at id w g ≡ Some v
      → (can_all at t c (change_steps id g ++ rest) ≡ can_all at t (perform t c (change_steps id g)) rest) × ((perform t c (change_steps id g)).wafer id ≡ Some v)
  can_on c w v None rest e h = (refl, e ∙ h)
  can_on c w v (Some g) rest e h =
      let b : (may_change at id g w ≡ true) × (Some (changed g w) ≡ Some v) = go (may_change at id g w) refl h in
      (ap (λ x. x && can_all at t (effect t id (change g) c) rest) (can_own c w (change g) e ∙ b.0), own_after c w (change g) e ∙ b.1)
    where
      go : (b : Bool) → may_change at id g w ≡ b → cond b (Some (changed g w)) None ≡ Some v → (b ≡ true) × (Some (changed g w) ≡ Some v)
      go true x h = (refl, h)
      go false x h = absurd (none-some v h)

  pub can-leave : (c : Contents) (w : Wafer) (from : ℕ) (e : Option Gone) → c.wafer id ≡ Some w → can_all at t c (exit_steps id from e) ≡ free_to_go w e
  can-leave c w from None h = refl
  can-leave c w from (Some e) h = and_end (can at c id (leave e)) ∙ can_own c w (leave e) h

  module _ (c : Contents) (w : Wafer) (there : c.wafer id ≡ Some w) (a b : Option Row) (from : ℕ) (e : Option Gone) where
    first_shut : None ≡ went at id w a → false ≡ can_all at t c (change_steps id a ++ (change_steps id b ++ exit_steps id from e))
    first_shut h = sym (cannot c w a (change_steps id b ++ exit_steps id from e) there (sym h))

    second_shut : (v : Wafer) → Some v ≡ went at id w a → None ≡ went at id v b → false ≡ can_all at t c (change_steps id a ++ (change_steps id b ++ exit_steps id from e))
    second_shut v h k =
        let u = can_on c w v a (change_steps id b ++ exit_steps id from e) there (sym h) in
        sym (u.0 ∙ cannot (perform t c (change_steps id a)) v b (exit_steps id from e) u.1 (sym k))

    all_open : (v u : Wafer) → Some v ≡ went at id w a → Some u ≡ went at id v b → free_to_go u e ≡ can_all at t c (change_steps id a ++ (change_steps id b ++ exit_steps id from e))
    all_open v u h k =
        let x = can_on c w v a (change_steps id b ++ exit_steps id from e) there (sym h) in
        let y = can_on (perform t c (change_steps id a)) v u b (exit_steps id from e) x.1 (sym k) in
        sym (x.0 ∙ y.0 ∙ can-leave (perform t (perform t c (change_steps id a)) (change_steps id b)) u from e y.1)

    -- two changes and an exit, of which each is looked at where those before it are open
    pub in_turn : {S : Type 0} (f : S → Wafer) (o p : Option S) (r : Bool) → option_map f o ≡ went at id w a → (o ≡ None → r ≡ false) → ((x : S) → o ≡ Some x → option_map f p ≡ went at id (f x) b)
        → ((x : S) → o ≡ Some x → p ≡ None → r ≡ false) → ((x y : S) → o ≡ Some x → p ≡ Some y → r ≡ free_to_go (f y) e)
        → r ≡ can_all at t c (change_steps id a ++ (change_steps id b ++ exit_steps id from e))
    in_turn f None p r h shut next none some = shut refl ∙ first_shut h
    in_turn f (Some x) None r h shut next none some = none x refl refl ∙ second_shut (f x) h (next x refl)
    in_turn f (Some x) (Some y) r h shut next none some = some x y refl refl ∙ all_open (f x) (f y) h (next x refl)
