-- A map of profiles and the settings that it shows.
use Rattle.std.proofs.Common.{◌≡◌, ℕ, ◌+◌, min, Bool, true, false, cond, List, [], ◌∷◌, length, Option, Some, None}
use Rattle.std.proofs.Common.{is_some, option_map, Result, Ok, Err, OnOk, OnErr, Vec, Global, Ordering, Less, Equal}
use Rattle.std.proofs.Common.{Greater, nat_cmp, refl, sym, ap, ◌∙◌, subst, arith}
use Rattle.std.proofs.Math.Path.{fun_ext}
use Rattle.std.proofs.lemmas.Map.Text.{is_eq-slice_cmp}
use Rattle.std.proofs.lemmas.Slice.Eq.{bytes_eq-Decides}
use Rattle.std.specs.Str.{bytes_eq}
use Rattle.std.specs.Cmp.Lexicographic.{slice_cmp}
use Rattle.std.specs.Map.{lookup, set_value}
use Rattle.std.specs.BTreeMap.{is_at, insert_entry}
use Rattle.std.specs.Ordering.{is_eq, match_ordering}
use Rattle.sieve_meaning.specs.Program.{Commands}
use Rattle.sieve_library.specs.Libraries.{NamedScript, script_under}
use Rattle.record_archive.specs.Archive.{Archive}
use Rattle.desk_commands.specs.Office.{with_officer, with_program}
use Rattle.desk_commands.specs.Pinning.{Officer, new_officer, no_program}
use Rattle.desk_commands.specs.Scripts.{HasNoRoom, meanings_of, put_script, script_at}
use Rattle.desk_officers.specs.declared.profile.Active.{Active}
use Rattle.desk_officers.specs.declared.profile.KeptImage.{KeptImage}
use Rattle.desk_officers.specs.declared.profile.Profile.{Profile}
use Rattle.desk_officers.specs.Register.{Register, Settings, meaning_of, office_of, officer_at, officer_of, with_global_script}
use Rattle.desk_officers.specs.Profiles.{active_of, officer_in, settings_of, settings_in}
use Rattle.desk_officers.specs.Changes.{ChangesOnly}
use Rattle.desk_officers.specs.Current.{KeepsCurrent, AllKeepCurrent, last_edition}
use Rattle.desk_officers.proofs.MeaningLemmas.{meaning_at}

abbrev pub Entries : Type 0
Entries = List (Vec ℕ Global × Profile)

-- how a look-up by a name compares it to a key
abbrev pub compare : (name : List ℕ) → Vec ℕ Global → Ordering
compare name k = slice_cmp nat_cmp name k.items

-- how keys compare to one another
abbrev pub cmp_names : Vec ℕ Global → Vec ℕ Global → Ordering
cmp_names x y = slice_cmp nat_cmp x.items y.items

module _ (name : List ℕ) where
  or_new : (b : Bool) (e : Vec ℕ Global × Profile) (rest : Option Profile) (o : Officer) (p : Profile)
      → (rest ≡ Some p → o ≡ officer_of (settings_of p)) → cond b (Some e.1) rest ≡ Some p
      → cond b (officer_of (settings_of e.1)) o ≡ officer_of (settings_of p)
  or_new true e rest o p ih h = let same : e.1 ≡ p = cc in ap (λ (x : Profile). officer_of (settings_of x)) same
  or_new false e rest o p ih h = ih h

  -- what is found is what the officer has set
  pub found_is : (es : Entries) (p : Profile) → lookup (is_at (compare name)) es ≡ Some p → officer_in es name ≡ officer_of (settings_of p)
  found_is [] p h = absurd (cc h)
  found_is (e ∷ es) p h =
      or_new (bytes_eq name e.0.items) e (lookup (is_at (compare name)) es) (officer_in es name) p (found_is es p)
      (subst (λ (b : Bool). cond b (Some e.1) (lookup (is_at (compare name)) es)
      ≡ Some p) (is_eq-slice_cmp name e.0.items) h)

  none_or : (b : Bool) (e : Vec ℕ Global × Profile) (rest : Option Profile) (o : Officer)
      → (rest ≡ None → o ≡ new_officer) → cond b (Some e.1) rest ≡ None
      → cond b (officer_of (settings_of e.1)) o ≡ new_officer
  none_or true e rest o ih h = absurd (cc h)
  none_or false e rest o ih h = ih h

  -- where nothing is found, the officer has set nothing
  pub missing_is : (es : Entries) → lookup (is_at (compare name)) es ≡ None → officer_in es name ≡ new_officer
  missing_is [] h = refl
  missing_is (e ∷ es) h =
      none_or (bytes_eq name e.0.items) e (lookup (is_at (compare name)) es) (officer_in es name) (missing_is es)
      (subst (λ (b : Bool). cond b (Some e.1) (lookup (is_at (compare name)) es)
      ≡ None) (is_eq-slice_cmp name e.0.items) h)

same_name : (a b : List ℕ) → bytes_eq a b ≡ true → a ≡ b
same_name a b h = (bytes_eq-Decides a b).0 h

-- KEPT IMAGES

module _ (edition : ℕ) (globals : List NamedScript) where
  abbrev Keeps : Profile → Type 0
  Keeps p = KeepsCurrent edition globals (settings_of p) p.kept

  abbrev AllKeep : Entries → Type 0
  AllKeep es = AllKeepCurrent edition globals es

  found_or : (b : Bool) (x p : Profile) (rest : Option Profile) → Keeps x → (rest ≡ Some p → Keeps p) → cond b (Some x) rest ≡ Some p → Keeps p
  found_or true x p rest k ih h = let same : x ≡ p = cc in subst (λ (y : Profile). Keeps y) same k
  found_or false x p rest k ih h = ih h

  pub found_keeps : (test : Vec ℕ Global → Bool) (es : Entries) (p : Profile) → AllKeep es → lookup test es ≡ Some p → Keeps p
  found_keeps test [] p k h = absurd (cc h)
  found_keeps test (e ∷ es) p k h = found_or (test e.0) e.1 p (lookup test es) k.0 (found_keeps test es p k.1) h

  set_or : (b : Bool) (e : Vec ℕ Global × Profile) (es new : Entries) (w : Profile) → Keeps w → AllKeep (e ∷ es)
      → AllKeep new → AllKeep (cond b ((e.0, w) ∷ es) (e ∷ new))
  set_or true e es new w k all rest = (k, all.1)
  set_or false e es new w k all rest = (all.0, rest)

  pub set_keeps : (test : Vec ℕ Global → Bool) (es : Entries) (w : Profile) → AllKeep es → Keeps w → AllKeep (set_value test es w)
  set_keeps test [] w all k = tt
  set_keeps test (e ∷ es) w all k = set_or (test e.0) e es (set_value test es w) w k all (set_keeps test es w all.1 k)

  put_or : (o : Ordering) (e : Vec ℕ Global × Profile) (es new : Entries) (k : Vec ℕ Global) (v : Profile) → Keeps v
      → AllKeep (e ∷ es) → AllKeep new → AllKeep (match_ordering o ((k, v) ∷ e ∷ es) ((e.0, v) ∷ es) (e ∷ new))
  put_or Less e es new k v h all rest = (h, all)
  put_or Equal e es new k v h all rest = (h, all.1)
  put_or Greater e es new k v h all rest = (all.0, rest)

  pub insert_keeps : (cmp : Vec ℕ Global → Vec ℕ Global → Ordering) (es : Entries) (k : Vec ℕ Global) (v : Profile)
      → AllKeep es → Keeps v → AllKeep (insert_entry cmp es k v)
  insert_keeps cmp [] k v all h = (h, tt)
  insert_keeps cmp (e ∷ es) k v all h = put_or (cmp k e.0) e es (insert_entry cmp es k v) k v h all (insert_keeps cmp es k v all.1 h)

-- SETTINGS

same_or : (b : Bool) (e : Vec ℕ Global × Profile) (es new : Entries) (rest : Option Profile) (p w : Profile)
    → settings_of w ≡ settings_of p → (rest ≡ Some p → settings_in new ≡ settings_in es)
    → cond b (Some e.1) rest ≡ Some p
    → settings_in (cond b ((e.0, w) ∷ es) (e ∷ new)) ≡ settings_in (e ∷ es)
same_or true e es new rest p w s ih h = let was : e.1 ≡ p = cc in
    ap (λ (x : Settings). (e.0.items, x) ∷ settings_in es) (s ∙ ap settings_of (sym was))
same_or false e es new rest p w s ih h = ap (λ (xs : List (List ℕ × Settings)). (e.0.items, settings_of e.1) ∷ xs) (ih h)

-- a profile that is replaced by one with the same settings
pub set_same : (test : Vec ℕ Global → Bool) (es : Entries) (p w : Profile) → lookup test es ≡ Some p
    → settings_of w ≡ settings_of p → settings_in (set_value test es w) ≡ settings_in es
set_same test [] p w h s = refl
set_same test (e ∷ es) p w h s = same_or (test e.0) e es (set_value test es w) (lookup test es) p w s (λ k. set_same test es p w k s) h

module _ (name n : List ℕ) where
  abbrev With : Bool → Profile → Entries → Officer
  With b w es = cond b (officer_of (settings_of w)) (officer_in es n)

  -- the first test says whether the entry has the name, the second whether it has n, the third whether the two are
  -- equal
  set_at : (a b : Bool) (e : Vec ℕ Global × Profile) (es new : Entries) (rest : Option Profile) (p w : Profile)
      → bytes_eq name e.0.items ≡ a → bytes_eq n name ≡ b → (rest ≡ Some p → officer_in new n ≡ With b w es)
      → cond a (Some e.1) rest ≡ Some p
      → officer_in (cond a ((e.0, w) ∷ es) (e ∷ new)) n ≡ With b w (e ∷ es)
  set_at true true e es new rest p w is same ih h =
      let here : bytes_eq n e.0.items ≡ true = ap (bytes_eq n) (sym (same_name name e.0.items is)) ∙ same in
      rw here refl
  set_at true false e es new rest p w is same ih h =
      let apart : bytes_eq n e.0.items ≡ false = ap (bytes_eq n) (sym (same_name name e.0.items is)) ∙ same in
      rw apart refl
  set_at false true e es new rest p w is same ih h =
      let apart : bytes_eq n e.0.items ≡ false = ap (λ (x : List ℕ). bytes_eq x e.0.items) (same_name n name same) ∙ is in
      rw apart (ih h)
  set_at false false e es new rest p w is same ih h = ap (cond (bytes_eq n e.0.items) (officer_of (settings_of e.1))) (ih h)

  set_gives : (es : Entries) (p w : Profile) → lookup (is_at (compare name)) es ≡ Some p
      → officer_in (set_value (is_at (compare name)) es w) n ≡ With (bytes_eq n name) w es
  set_gives [] p w h = absurd (cc h)
  set_gives (e ∷ es) p w h =
      let at = is_eq-slice_cmp name e.0.items in
      subst (λ (a : Bool). officer_in (cond a ((e.0, w) ∷ es) (e ∷ set_value (is_at (compare name)) es w)) n
      ≡ With (bytes_eq n name) w (e ∷ es)) (sym at)
      (set_at (bytes_eq name e.0.items) (bytes_eq n name) e es (set_value (is_at (compare name)) es w)
      (lookup (is_at (compare name)) es) p w refl refl (set_gives es p w)
      (subst (λ (a : Bool). cond a (Some e.1) (lookup (is_at (compare name)) es) ≡ Some p) at h))

  insert_at : (o : Ordering) (e : Vec ℕ Global × Profile) (es new : Entries) (k : Vec ℕ Global) (v : Profile)
      → slice_cmp nat_cmp k.items e.0.items ≡ o → k.items ≡ name → officer_in new n ≡ With (bytes_eq n name) v es
      → officer_in (match_ordering o ((k, v) ∷ e ∷ es) ((e.0, v) ∷ es) (e ∷ new)) n ≡ With (bytes_eq n name) v (e ∷ es)
  insert_at Less e es new k v is key ih = rw key refl
  insert_at Equal e es new k v is key ih =
      let at : bytes_eq k.items e.0.items ≡ true = sym (is_eq-slice_cmp k.items e.0.items) ∙ ap is_eq is in
      let same : e.0.items ≡ name = sym (same_name k.items e.0.items at) ∙ key in
      rw same (go (bytes_eq n name))
    where
      go : (b : Bool) → cond b (officer_of (settings_of v)) (officer_in es n)
          ≡ cond b (officer_of (settings_of v)) (cond b (officer_of (settings_of e.1)) (officer_in es n))
      go true = refl
      go false = refl
  insert_at Greater e es new k v is key ih =
      let at : bytes_eq name e.0.items ≡ false = ap (λ (x : List ℕ). bytes_eq x e.0.items) (sym key)
      ∙ sym (is_eq-slice_cmp k.items e.0.items) ∙ ap is_eq is in
      rw ih (go (bytes_eq n e.0.items) (bytes_eq n name) refl refl at)
    where
      go : (a b : Bool) → bytes_eq n e.0.items ≡ a → bytes_eq n name ≡ b → bytes_eq name e.0.items ≡ false
          → cond a (officer_of (settings_of e.1)) (With b v es) ≡ With b v (e ∷ es)
      go true true is same at =
          absurd (let other : bytes_eq n e.0.items ≡ false =
          ap (λ (x : List ℕ). bytes_eq x e.0.items) (same_name n name same) ∙ at in let f : true ≡ false = sym is
          ∙ other in cc)
      go true false is same at = rw is refl
      go false true is same at = refl
      go false false is same at = rw is refl

  insert_gives : (es : Entries) (k : Vec ℕ Global) (v : Profile) → k.items ≡ name
      → officer_in (insert_entry cmp_names es k v) n ≡ With (bytes_eq n name) v es
  insert_gives [] k v key = rw key refl
  insert_gives (e ∷ es) k v key = insert_at (slice_cmp nat_cmp k.items e.0.items) e es _ k v refl key (insert_gives es k v key)

  known_or : (b : Bool) → bytes_eq n name ≡ b → (es : Entries) (o : Officer) → officer_in es name ≡ o → officer_in es n ≡ cond b o (officer_in es n)
  known_or true is es o h = ap (officer_in es) (same_name n name is) ∙ h
  known_or false is es o h = refl

-- CHANGES

-- the profile that was found is changed
pub changed_there : (name : List ℕ) (es new : Entries) (p w : Profile) (o : Officer)
    → lookup (is_at (compare name)) es ≡ Some p → new ≡ set_value (is_at (compare name)) es w → w.kept ≡ None
    → officer_of (settings_of w) ≡ o → ChangesOnly es new name o
changed_there name es new p w o found is void has = record {
  officers = λ n. ap (λ (x : Entries). officer_in x n) is ∙ set_gives name n es p w found
      ∙ ap (λ (x : Officer). cond (bytes_eq n name) x (officer_in es n)) has;
  images = λ edition globals all.
      let keeps = subst (λ (k : Option KeptImage). KeepsCurrent edition globals (settings_of w) k) (sym void) tt in
      subst (λ (x : Entries). AllKeepCurrent edition globals x) (sym is) (set_keeps edition globals (is_at (compare name)) es w all keeps);
}

-- an officer is added
pub changed_new : (name : List ℕ) (es new : Entries) (k : Vec ℕ Global) (v : Profile) (o : Officer) → k.items ≡ name
    → new ≡ insert_entry cmp_names es k v → v.kept ≡ None → officer_of (settings_of v) ≡ o → ChangesOnly es new name o
changed_new name es new k v o key is void has = record {
  officers = λ n. ap (λ (x : Entries). officer_in x n) is ∙ insert_gives name n es k v key
      ∙ ap (λ (x : Officer). cond (bytes_eq n name) x (officer_in es n)) has;
  images = λ edition globals all.
      let keeps = subst (λ (i : Option KeptImage). KeepsCurrent edition globals (settings_of v) i) (sym void) tt in
      subst (λ (x : Entries). AllKeepCurrent edition globals x) (sym is) (insert_keeps edition globals cmp_names es k v all keeps);
}

-- an officer stays the same
pub changed_not : (name : List ℕ) (es new : Entries) (o : Officer) → new ≡ es → officer_in es name ≡ o → ChangesOnly es new name o
changed_not name es new o is has = record {
  officers = λ n. ap (λ (x : Entries). officer_in x n) is ∙ known_or name n (bytes_eq n name) refl es o has;
  images = λ edition globals all. subst (λ (x : Entries). AllKeepCurrent edition globals x) (sym is) all;
}

pub no_program_known : (o : Officer) → o ≡ new_officer → o ≡ with_program o no_program
no_program_known o is = is ∙ ap (λ (x : Officer). with_program x no_program) (sym is)

-- a profile with a program
pub program_set : (p w : Profile) (o : Officer) (a : Active) → o ≡ officer_of (settings_of p)
    → w ≡ record p { active = a; kept = None } → officer_of (settings_of w) ≡ with_program o (active_of a)
program_set p w o a is e = ap (λ (x : Profile). officer_of (settings_of x)) e ∙ ap (λ (x : Officer). with_program x (active_of a)) (sym is)

-- the office after an officer has changed
pub office_changed : (name : List ℕ) (g : List NamedScript) (es new : Entries) (r : Register) (f : List (List ℕ
    × Settings) → Officer) → record { globals = g; officers = settings_in es } ≡ r
    → ChangesOnly es new name (f (settings_in es)) → (a : Archive)
    → office_of a (record { globals = g; officers = settings_in new }) ≡ with_officer (office_of a r) name (f r.officers)
office_changed name g es new r f view h a =
    subst (λ (x : Register). office_of a (record { globals = g; officers = settings_in new }) ≡ with_officer (office_of a x) name (f x.officers)) view
    (ap (λ (os : List ℕ → Officer). record { archive = a; globals = meanings_of g; officers = os }) (fun_ext h.officers))

-- the office after the global scripts have changed
pub office_shared : (g new : List NamedScript) (xs : List (List ℕ × Settings)) (r : Register) (name : List ℕ)
    (main : Commands) → record { globals = g; officers = xs } ≡ r
    → meanings_of new ≡ put_script name main (meanings_of g) → (a : Archive)
    → office_of a (record { globals = new; officers = xs }) ≡ with_global_script (office_of a r) name main
office_shared g new xs r name main view h a =
    subst (λ (x : Register). office_of a (record { globals = new; officers = xs }) ≡ with_global_script (office_of a x) name main) view
    (ap (λ (gs : List (List ℕ × Commands)). record { archive = a; globals = gs; officers = λ n. officer_at n xs }) h)

-- EDITIONS

later_or : (edition next : ℕ) (globals new : List NamedScript) (s : Settings) (kept : Option KeptImage)
    → next ≡ min (edition + 1) last_edition → KeepsCurrent edition globals s kept → KeepsCurrent next new s kept
later_or edition next globals new s None is k = tt
later_or edition next globals new s (Some i) is k =
    let early = k.so_far in
    let apart = k.told_apart in
    record {
      so_far = omega (arith, is, early, apart);
      told_apart = apart;
      pinned = λ same. absurd (omega (arith, is, early, apart, same));
    }

-- at the next edition no kept image is of that edition
pub later : (edition next : ℕ) (globals new : List NamedScript) (es : Entries) → next ≡ min (edition + 1) last_edition
    → AllKeepCurrent edition globals es → AllKeepCurrent next new es
later edition next globals new [] is all = tt
later edition next globals new (e ∷ es) is all = (
  later_or edition next globals new (settings_of e.1) e.1.kept is all.0,
  later edition next globals new es is all.1,
)

-- RESULTS

pub on_both : {A E : Type 0} {P Q R : Type 0} (r : Result A E) → OnOk r P → OnOk r Q → (P → Q → R) → OnOk r R
on_both (Ok x) p q f = f p q
on_both (Err y) p q f = tt

pub on_ok : {A E : Type 0} {P Q : Type 0} (r : Result A E) → OnOk r P → (P → Q) → OnOk r Q
on_ok (Ok x) p f = f p
on_ok (Err y) p f = tt

pub on_err : {A E : Type 0} {P Q : Type 0} (r : Result A E) → OnErr r P → (P → Q) → OnErr r Q
on_err (Ok x) p f = tt
on_err (Err y) p f = f p

pub some_map : {A B : Type 0} (f : A → B) (o : Option A) → is_some (option_map f o) ≡ is_some o
some_map f None = refl
some_map f (Some x) = refl

pub has_named : (name : List ℕ) (es : List NamedScript) → is_some (script_under name es) ≡ is_some (script_at name (meanings_of es))
has_named name es = sym (some_map meaning_of (script_under name es)) ∙ ap is_some (meaning_at name es)

-- an officer who has set nothing has no script, and so there is room
pub room_unknown : (o : Officer) (name : List ℕ) → o ≡ new_officer → HasNoRoom o.scripts name → ⊥
room_unknown o name is full =
    let none : length o.scripts ≡ 0 = ap (λ (x : Officer). length x.scripts) is in
    let many : length o.scripts ≡ 32 = full.full in
    omega (arith, none, many)
