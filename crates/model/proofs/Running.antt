-- Every run keeps the law.
use Rattle.std.proofs.Common.{◌≡◌, ℕ, ◌≤◌, Bool, true, false, cond, ◌&&◌, eqb, ltb, List, [], ◌∷◌, ◌++◌, Some, None, Option, sym, refl, ap, ◌∙◌, subst, arith}
use Rattle.std.proofs.lemmas.Bool.{both_ways, false≢true, and_parts, or_parts, or_from, eqb-true, eq-eqb}
use Rattle.std.proofs.lemmas.List.{append_assoc, append-nil}
use Rattle.std.proofs.lemmas.List.Quantifiers.{position-Some}
use Rattle.std.proofs.lemmas.Option.{none-some}
use Rattle.std.specs.Option.{option_map}
use Rattle.table.specs.Lookup.{bears, in_use, row_at}
use Rattle.model.specs.Wafers.{Wafer}
use Rattle.model.specs.Places.{Plan, Spot, Sites, sites, index, code_at, Contents}
use Rattle.model.specs.Switches.{Switches, silent_at, quiet, all_off, with_reader, silenced_at}
use Rattle.model.specs.Mirroring.{Mirror, blank_mirror, Intake, taken, intake_all, hears}
use Rattle.model.specs.Steps.{Step, perform}
use Rattle.model.specs.Calls.{Tracker, made_tracker, Call, Answer, steps_of, time_of, times_of, refusal, due, resolved}
use Rattle.model.specs.Transitions.{Traced, nothing}
use Rattle.model.specs.Runs.{Event, call, reader, silence, begin, finish, Setup, Matched, World, answers_after, restored, Took, Path, Begun, Reached, names, silences, ever_silenced, BothHold, Each, Sound, Law, ByRows, Along}
use Rattle.model.proofs.Performing.{heard_places, heard_told, Mirrored, mirrored, intake_append, hears-taken, sound_all, traced}
use Rattle.model.proofs.Promises.{Kept}
use Rattle.model.proofs.Accepting.{Accepted, accepted}

-- never silenced over events, nor by the next
ever_parts : (ps : Plan) (p : ℕ) (es : List Event) (e : Event) → ever_silenced ps p (es ++ e ∷ []) ≡ false → (ever_silenced ps p es ≡ false) × (silences ps p e ≡ false)
ever_parts ps p [] e h = (refl, (or_parts _ _ h).0)
ever_parts ps p (x ∷ es) e h =
    let u = or_parts (silences ps p x) (ever_silenced ps p (es ++ e ∷ [])) h in
    let v = ever_parts ps p es e u.1 in
    (or_from _ _ u.0 v.0, v.1)

-- the place at the position of a code has that code
index-code : (ps : Plan) (p j : ℕ) → index ps p ≡ Some j → code_at ps j ≡ Some p
index-code ps p j e = coded (row_at ps j) (position-Some (bears (λ s. s.code) eqb p) ps j None e).1
  where
    coded : (o : Option Spot) → bears (λ s. s.code) eqb p o ≡ true → option_map (λ s. s.code) o ≡ Some p
    coded None t = absurd (false≢true t)
    coded (Some s) t = ap Some (eqb-true s.code p t)

-- a switch other than the place's own is set, or its own to off
quiet-set : (ps : Plan) (h : Switches) (i p : ℕ) (b : Bool) → (names (code_at ps i) p ≡ true → b ≡ false) → quiet ps h p ≡ false → quiet ps (silenced_at i b h) p ≡ false
quiet-set ps h i p b n e = go (index ps p) refl e
  where
    go : (o : Option ℕ) → index ps p ≡ o → silent_at o h ≡ false → silent_at o (silenced_at i b h) ≡ false
    go None x e = refl
    go (Some j) x e = by_switch (ltb i h.count && eqb j i) refl
      where
        by_switch : (t : Bool) → (ltb i h.count && eqb j i) ≡ t → cond t b (h.silent j) ≡ false
        by_switch true y =
            let same : j ≡ i = eqb-true j i (and_parts _ _ y).1 in
            let coded : code_at ps i ≡ Some p = ap (code_at ps) (sym same) ∙ index-code ps p j x in
            n (ap (λ (o : Option ℕ). names o p) coded ∙ eq-eqb p p refl)
        by_switch false y = e

quiet-silence : (ps : Plan) (h : Switches) (i p : ℕ) (b : Bool) → (b && names (code_at ps i) p) ≡ false → quiet ps h p ≡ false → quiet ps (silenced_at i b h) p ≡ false
quiet-silence ps h i p b s e = quiet-set ps h i p b (λ n. off b (names (code_at ps i) p) s n) e
  where
    off : (b c : Bool) → (b && c) ≡ false → c ≡ true → b ≡ false
    off true c s n = absurd (both_ways _ s n)
    off false c s n = refl

quiet-restored : (ps : Plan) (v : Option (ℕ × Bool)) (h : Switches) (p : ℕ) → Each (λ v. names (code_at ps v.0) p ≡ false) v → quiet ps h p ≡ false → quiet ps (restored v h) p ≡ false
quiet-restored ps None h p n e = e
quiet-restored ps (Some v) h p n e = quiet-set ps h v.0 p v.1 (λ t. absurd (both_ways _ n t)) e

quiet-reader : (ps : Plan) (h : Switches) (p : ℕ) (b : Bool) → quiet ps h p ≡ false → quiet ps (with_reader b h) p ≡ false
quiet-reader ps h p b e = go (index ps p) e
  where
    go : (o : Option ℕ) → silent_at o h ≡ false → silent_at o (with_reader b h) ≡ false
    go None e = refl
    go (Some i) e = e

-- what holds of tracker, settings, sink and mirror together
record Together (s : Setup) (es : List Event) (w : World) : Type 0 where
  same : w.mirror.contents ≡ w.tracker.contents
  taken_all : intake_all (sites s.plan) s.mirror_rows (taken blank_mirror) w.reports ≡ taken w.mirror
  in_time : w.mirror.last ≤ w.tracker.latest
  sound : Sound (sites s.plan) w.tracker.contents
  kept : Kept (sites s.plan) w.tracker.contents w.tracker.promise
  heard : (p : ℕ) → ever_silenced s.plan p es ≡ false → w.mirror.seen p ≡ w.tracker.contents.occupant p
  loud : (p : ℕ) → ever_silenced s.plan p es ≡ false → quiet s.plan w.switches p ≡ false
  visited : (p : ℕ) → ever_silenced s.plan p es ≡ false → Each (λ v. names (code_at s.plan v.0) p ≡ false) w.visit

-- the world after a call that was answered so
abbrev after_call : Setup → World → Call → ℕ → Option ℕ → World
after_call s w k room o = record {
  tracker = (resolved s.plan w.switches w.tracker k o).after;
  switches = w.switches;
  visit = w.visit;
  reports = w.reports ++ (resolved s.plan w.switches w.tracker k o).reports;
  room = room;
  mirror = hears (sites s.mirror_plan) s.mirror_rows w.mirror (resolved s.plan w.switches w.tracker k o).reports;
  answers = w.answers ++ ((resolved s.plan w.switches w.tracker k o).answer ∷ []);
}

-- the same with other settings and another visit
abbrev after_switch : World → Switches → Option (ℕ × Bool) → ℕ → List Answer → World
after_switch w h v room ys = record {
  tracker = w.tracker;
  switches = h;
  visit = v;
  reports = w.reports ++ [];
  room = room;
  mirror = w.mirror;
  answers = w.answers ++ ys;
}

abbrev next : Setup → World → Event → ℕ → World
next s w (call k) room = after_call s w k room (refusal s.plan s.rows w.switches w.tracker w.room k)
next s w (reader b) room = after_switch w (with_reader b w.switches) w.visit room (answers_after s w (reader b))
next s w (silence i b) room = after_switch w (silenced_at i b w.switches) w.visit room (answers_after s w (silence i b))
next s w (begin i) room = after_switch w (silenced_at i true w.switches) (Some (i, w.switches.silent i)) room (answers_after s w (begin i))
next s w finish room = after_switch w (restored w.visit w.switches) None room (answers_after s w finish)

took_next : (s : Setup) (w : World) (e : Event) (w' : World) → Took s w e w' → w' ≡ next s w e w'.room
took_next s w (call k) w' t = λ i. record { tracker = t.tracker i; switches = t.switches i; visit = t.visit i; reports = t.reports i; room = w'.room; mirror = t.mirror i; answers = t.answers i }
took_next s w (reader b) w' t = λ i. record { tracker = t.tracker i; switches = t.switches i; visit = t.visit i; reports = t.reports i; room = w'.room; mirror = t.mirror i; answers = t.answers i }
took_next s w (silence x b) w' t = λ i. record { tracker = t.tracker i; switches = t.switches i; visit = t.visit i; reports = t.reports i; room = w'.room; mirror = t.mirror i; answers = t.answers i }
took_next s w (begin x) w' t = λ i. record { tracker = t.tracker i; switches = t.switches i; visit = t.visit i; reports = t.reports i; room = w'.room; mirror = t.mirror i; answers = t.answers i }
took_next s w finish w' t = λ i. record { tracker = t.tracker i; switches = t.switches i; visit = t.visit i; reports = t.reports i; room = w'.room; mirror = t.mirror i; answers = t.answers i }

-- switches and visits leave tracker and mirror alone
switch_together : (s : Setup) (es : List Event) (e : Event) (w : World) (h : Switches) (v : Option (ℕ × Bool)) (room : ℕ) (ys : List Answer) → Together s es w
    → ((p : ℕ) → ever_silenced s.plan p es ≡ false → silences s.plan p e ≡ false → quiet s.plan h p ≡ false)
    → ((p : ℕ) → ever_silenced s.plan p es ≡ false → silences s.plan p e ≡ false → Each (λ v. names (code_at s.plan v.0) p ≡ false) v)
    → Together s (es ++ e ∷ []) (after_switch w h v room ys)
switch_together s es e w h v room ys g loud visited = record {
  same = g.same;
  taken_all = ap (intake_all (sites s.plan) s.mirror_rows (taken blank_mirror)) (append-nil w.reports) ∙ g.taken_all;
  in_time = g.in_time;
  sound = g.sound;
  kept = g.kept;
  heard = λ p n. g.heard p (ever_parts s.plan p es e n).0;
  loud = λ p n. let u = ever_parts s.plan p es e n in loud p u.0 u.1;
  visited = λ p n. let u = ever_parts s.plan p es e n in visited p u.0 u.1;
}

-- the mirror, once its contents are the tracker's
as_tracker : (m : Mirror) (c : Contents) → m.contents ≡ c → m ≡ record { contents = c; seen = m.seen; last = m.last }
as_tracker m c e = λ i. record { contents = e i; seen = m.seen; last = m.last }

between : (a b c : ℕ) → a ≤ b → b ≤ c → a ≤ c
between a b c h k = omega arith

call_together : (s : Setup) (es : List Event) (w : World) (k : Call) (room : ℕ) → Matched s → Together s es w → (o : Option ℕ) → refusal s.plan s.rows w.switches w.tracker w.room k ≡ o → Together s (es ++ call k ∷ []) (after_call s w k room o)
call_together s es w k room m g (Some n) e = record {
  same = g.same;
  taken_all = ap (intake_all (sites s.plan) s.mirror_rows (taken blank_mirror)) (append-nil w.reports) ∙ g.taken_all;
  in_time = g.in_time;
  sound = g.sound;
  kept = g.kept;
  heard = λ p n. g.heard p (ever_parts s.plan p es (call k) n).0;
  loud = λ p n. g.loud p (ever_parts s.plan p es (call k) n).0;
  visited = λ p n. g.visited p (ever_parts s.plan p es (call k) n).0;
}
call_together s es w k room m g None e =
    let a : Accepted s.plan s.mirror_rows h t k = accepted k s.plan s.rows s.mirror_rows h t w.room m.enough_rows g.sound g.kept e in
    let r : Mirrored at s.mirror_rows (quiet s.plan h) (time_of t.latest k) c w.mirror.seen w.mirror.last ss =
    mirrored at s.mirror_rows (quiet s.plan h) (time_of t.latest k) ss c w.mirror.seen w.mirror.last a.cans a.places a.has_rooms (between _ _ _ g.in_time a.later) in
    let new : Mirror = record { contents = perform (times_of t k) c ss; seen = heard_places (quiet s.plan h) ss w.mirror.seen; last = r.now_last } in
    let begins : w.mirror ≡ record { contents = c; seen = w.mirror.seen; last = w.mirror.last } = as_tracker w.mirror c g.same in
    let takes_all : intake_all at s.mirror_rows (taken w.mirror) (due s.plan h t k) ≡ taken new = ap (λ (x : Mirror). intake_all at s.mirror_rows (taken x) (due s.plan h t k)) begins ∙ r.accepted in
    let ends : hears (sites s.mirror_plan) s.mirror_rows w.mirror (due s.plan h t k) ≡ new =
    ap (λ (x : Sites). hears x s.mirror_rows w.mirror (due s.plan h t k)) (sym places) ∙ hears-taken at s.mirror_rows (due s.plan h t k) w.mirror new takes_all in
    record {
      same = ap (λ (x : Mirror). x.contents) ends;
      taken_all =
          intake_append at s.mirror_rows w.reports (due s.plan h t k) (taken blank_mirror)
          ∙ ap (λ (y : Intake). intake_all at s.mirror_rows y (due s.plan h t k)) g.taken_all
          ∙ takes_all
          ∙ ap taken (sym ends);
      in_time = subst (λ (x : Mirror). x.last ≤ time_of t.latest k) (sym ends) r.in_time;
      sound = sound_all at (times_of t k) ss c g.sound a.cans;
      kept = a.kept;
      heard = λ p n.
          let u = ever_parts s.plan p es (call k) n in
          ap (λ (x : Mirror). x.seen p) ends ∙ heard_told (quiet s.plan h) ss w.mirror.seen c.occupant p (g.loud p u.0) (g.heard p u.0) ∙ a.told p;
      loud = λ p n. g.loud p (ever_parts s.plan p es (call k) n).0;
      visited = λ p n. g.visited p (ever_parts s.plan p es (call k) n).0;
    }
  where
    places : sites s.plan ≡ sites s.mirror_plan
    places = λ i p. m.same_places p i

    at : Sites
    at = sites s.plan

    h : Switches
    h = w.switches

    t : Tracker
    t = w.tracker

    c : Contents
    c = w.tracker.contents

    ss : List Step
    ss = steps_of (sites s.plan) w.switches w.tracker k

next_together : (s : Setup) (es : List Event) (w : World) (e : Event) (room : ℕ) → Matched s → Together s es w → Together s (es ++ e ∷ []) (next s w e room)
next_together s es w (call k) room m g = call_together s es w k room m g (refusal s.plan s.rows w.switches w.tracker w.room k) refl
next_together s es w (reader b) room m g =
    switch_together s es (reader b) w (with_reader b w.switches) w.visit room (answers_after s w (reader b)) g
    (λ p n x. quiet-reader s.plan w.switches p b (g.loud p n)) (λ p n x. g.visited p n)
next_together s es w (silence i b) room m g =
    switch_together s es (silence i b) w (silenced_at i b w.switches) w.visit room (answers_after s w (silence i b)) g
    (λ p n x. quiet-silence s.plan w.switches i p b x (g.loud p n)) (λ p n x. g.visited p n)
next_together s es w (begin i) room m g =
    switch_together s es (begin i) w (silenced_at i true w.switches) (Some (i, w.switches.silent i)) room (answers_after s w (begin i)) g
    (λ p n x. quiet-silence s.plan w.switches i p true x (g.loud p n)) (λ p n x. x)
next_together s es w finish room m g =
    switch_together s es finish w (restored w.visit w.switches) None room (answers_after s w finish) g
    (λ p n x. quiet-restored s.plan w.visit w.switches p (g.visited p n) (g.loud p n)) (λ p n x. tt)

took_together : (s : Setup) (es : List Event) (w : World) (e : Event) (w' : World) → Matched s → Together s es w → Took s w e w' → Together s (es ++ e ∷ []) w'
took_together s es w e w' m g t = subst (Together s (es ++ e ∷ [])) (sym (took_next s w e w' t)) (next_together s es w e w'.room m g)

abbrev first_world : Setup → ℕ → World
first_world s room = record { tracker = made_tracker; switches = all_off (in_use s.plan); visit = None; reports = []; room = room; mirror = blank_mirror; answers = [] }

begun_first : (s : Setup) (w : World) → Begun s w → w ≡ first_world s w.room
begun_first s w b = λ i. record { tracker = b.tracker i; switches = b.switches i; visit = b.visit i; reports = b.reports i; room = w.room; mirror = b.mirror i; answers = b.answers i }

first_together : (s : Setup) (room : ℕ) → Together s [] (first_world s room)
first_together s room = record {
  same = refl;
  taken_all = refl;
  in_time = omega arith;
  sound = record { linked = λ p i. (λ e. absurd (none-some i e), λ e. absurd (none-some p e)); housed = λ i. tt };
  kept = record { target = λ q i e. absurd (none-some _ e); ready = λ q i e. absurd (none-some _ e); once = λ q r i e f. absurd (none-some _ e) };
  heard = λ p n. refl;
  loud = λ p n. all_quiet (index s.plan p);
  visited = λ p n. tt;
}
  where
    all_quiet : (o : Option ℕ) → silent_at o (all_off (in_use s.plan)) ≡ false
    all_quiet None = refl
    all_quiet (Some i) = refl

path_together : (s : Setup) → Matched s → (fs es : List Event) (w w' : World) → Together s es w → Path s w fs w' → Together s (es ++ fs) w'
path_together s m [] es w w' g e = subst (Together s (es ++ [])) (sym e) (subst (λ (xs : List Event). Together s xs w) (sym (append-nil es)) g)
path_together s m (f ∷ fs) es w w' g (v, t, p) =
    subst (λ (xs : List Event). Together s xs w') (append_assoc es (f ∷ []) fs) (path_together s m fs (es ++ f ∷ []) v w' (took_together s es w f v m g t) p)

reached_together : (s : Setup) (es : List Event) (w : World) → Matched s → Reached s es w → Together s es w
reached_together s es w m (b, n, p) = path_together s m es [] b w (subst (Together s []) (sym (begun_first s b n)) (first_together s b.room)) p

-- what both hold is alike where it is the same
both_same : (o : Option Wafer) → BothHold o o
both_same None = tt
both_same (Some w) = record { place = refl; source = refl; destination = refl; transport = refl; processing = refl; reading = refl; acquired = refl; history = refl }

law : (s : Setup) (es : List Event) (w : World) → Matched s → Together s es w → Law s es w
law s es w m g = record {
  accepted = ap (λ (x : Sites). intake_all x s.mirror_rows (taken blank_mirror) w.reports) (sym places) ∙ g.taken_all;
  mirror_agrees = λ id. subst (λ (c : Contents). BothHold (w.tracker.contents.wafer id) (c.wafer id)) (sym g.same) (both_same (w.tracker.contents.wafer id));
  tracker_sound = g.sound;
  mirror_sound = subst (λ (x : Sites). Sound x w.mirror.contents) places (subst (Sound (sites s.plan)) (sym g.same) g.sound);
  both_tell_the_same = λ p n. g.heard p n ∙ ap (λ (c : Contents). c.occupant p) (sym g.same);
}
  where
    places : sites s.plan ≡ sites s.mirror_plan
    places = λ i p. m.same_places p i

by_rows : (s : Setup) (es : List Event) (w : World) (e : Event) → Matched s → Together s es w → ByRows s w e
by_rows s es w (call k) m g = go (refusal s.plan s.rows w.switches w.tracker w.room k) refl
  where
    go : (o : Option ℕ) → refusal s.plan s.rows w.switches w.tracker w.room k ≡ o
        → Traced (sites s.plan) (times_of w.tracker k) w.tracker.contents (resolved s.plan w.switches w.tracker k o).reports (resolved s.plan w.switches w.tracker k o).after.contents
    go (Some n) e = nothing w.tracker.contents
    go None e =
        let a : Accepted s.plan s.mirror_rows w.switches w.tracker k = accepted k s.plan s.rows s.mirror_rows w.switches w.tracker w.room m.enough_rows g.sound g.kept e in
        traced (sites s.plan) (quiet s.plan w.switches) (times_of w.tracker k) (steps_of (sites s.plan) w.switches w.tracker k) w.tracker.contents g.sound a.cans
by_rows s es w (reader b) m g = tt
by_rows s es w (silence i b) m g = tt
by_rows s es w (begin i) m g = tt
by_rows s es w finish m g = tt

along : (s : Setup) → Matched s → (fs es : List Event) (w w' : World) → Together s es w → Path s w fs w' → Along s es w fs w'
along s m [] es w w' g e = (e, law s es w m g)
along s m (f ∷ fs) es w w' g (v, t, p) = (law s es w m g, (by_rows s es w f m g, (v, t, along s m fs (es ++ f ∷ []) v w' (took_together s es w f v m g t) p)))

pub runs_keep_the_law : (s : Setup) (es fs : List Event) (w w' : World) → Matched s → Reached s es w → Path s w fs w' → Along s es w fs w'
runs_keep_the_law s es fs w w' m r p = along s m fs es w w' (reached_together s es w m r) p
