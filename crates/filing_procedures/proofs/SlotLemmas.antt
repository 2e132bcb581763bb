-- Each script of a library has its own slot.
use Rattle.std.proofs.Common.{◌≡◌, ℕ, ◌+◌, ◌-◌, ◌<◌, ◌≤◌, List, [], ◌∷◌, Bool, true, false, not, cond, Option, Some}
use Rattle.std.proofs.Common.{None, option_map, length, refl, sym, ap, ◌∙◌, arith}
use Rattle.std.specs.Prelude.{find}
use Rattle.std.specs.List.{slice_get}
use Rattle.std.proofs.lemmas.Slice.Eq.{bytes_eq-Decides}
use Rattle.std.proofs.lemmas.List.Folds.{find_at}
use Rattle.std.proofs.lemmas.Option.{slice_get_within}
use Rattle.sieve_syntax.specs.declared.tree.Script.{Script}
use Rattle.sieve_syntax.specs.View.{tree_of}
use Rattle.sieve_meaning.specs.Program.{Commands}
use Rattle.sieve_meaning.specs.Reading.{program_of}
use Rattle.sieve_library.specs.Libraries.{NamedScript, Scripts, EachOnce, IsLocation, IsLibrary, is_named}
use Rattle.sieve_library.specs.Libraries.{script_under, place_of, location_of, library_of, most_scripts}
use Rattle.filing_procedures.specs.Slots.{first_slot, slots_of, HasSlots, IsAt}
use Rattle.sieve_library.proofs.LocationLemmas.{found_passes, same_name, other_name}

abbrev program : Script → Commands
program x = program_of (tree_of x)

entry_there : (o : Option NamedScript) (y : Commands)
    → option_map program (option_map (λ (e : NamedScript). e.script) o) ≡ Some y → (e : NamedScript) × (o ≡ Some e)
entry_there None y h = absurd (cc h)
entry_there (Some e) y h = (e, refl)

at_place : (name : List ℕ) (es : List NamedScript) (e : NamedScript) → find (is_named name) es ≡ Some e → slice_get es (place_of name es) ≡ Some e
at_place name es e h = sym (find_at (is_named name) es) ∙ h

place_at : (name : List ℕ) (es : List NamedScript) (y : Commands) → option_map program (script_under name es) ≡ Some y
    → option_map program (option_map (λ (e : NamedScript). e.script) (slice_get es (place_of name es))) ≡ Some y
place_at name es y h =
    let e = entry_there (find (is_named name) es) y h in
    ap (λ (o : Option NamedScript). option_map program (option_map (λ (d : NamedScript). d.script) o)) (at_place name es e.0 e.1 ∙ sym e.1) ∙ h

place_inside : (name : List ℕ) (es : List NamedScript) (y : Commands)
    → option_map program (script_under name es) ≡ Some y → place_of name es < length es
place_inside name es y h =
    let e = entry_there (find (is_named name) es) y h in
    slice_get_within es (place_of name es) e.0 (at_place name es e.0 e.1)

place_own : (a b : List ℕ) (es : List NamedScript) (x y : Commands) → option_map program (script_under a es) ≡ Some x
    → option_map program (script_under b es) ≡ Some y → place_of a es ≡ place_of b es → a ≡ b
place_own a b es x y h k same =
    let d = entry_there (find (is_named a) es) x h in
    let e = entry_there (find (is_named b) es) y k in
    let at : Some d.0 ≡ Some e.0 = sym (at_place a es d.0 d.1) ∙ ap (slice_get es) same ∙ at_place b es e.0 e.1 in
    let one : d.0 ≡ e.0 = cc at in
    sym (same_name d.0.name a (found_passes a es d.0 d.1)) ∙ ap (λ (n : NamedScript). n.name) one ∙ same_name e.0.name b (found_passes b es e.0 e.1)

slot_below : (l : Scripts) (count : ℕ) → length l.personal ≤ count
    → (0 < length l.global → most_scripts + length l.global ≤ count) → (global : Bool) (name : List ℕ)
    → place_of name (location_of global l) < length (location_of global l)
    → first_slot global + place_of name (location_of global l) < count
slot_below l count p g true name h = let few : most_scripts + length l.global ≤ count = g (omega (arith, h)) in omega (arith, h, few)
slot_below l count p g false name h = omega (arith, h, p)

slot_own : (g k : Bool) (a b : List ℕ) (l : Scripts) (x y : Commands) → IsLibrary l
    → option_map program (script_under a (location_of g l)) ≡ Some x
    → option_map program (script_under b (location_of k l)) ≡ Some y
    → first_slot g + place_of a (location_of g l) ≡ first_slot k + place_of b (location_of k l) → (g ≡ k) × (a ≡ b)
slot_own true true a b l x y i u v e = (refl, place_own a b l.global x y u v (omega (arith, e)))
slot_own false false a b l x y i u v e = (refl, place_own a b l.personal x y u v (omega (arith, e)))
slot_own true false a b l x y i u v e = absurd (omega (arith, e, place_inside b l.personal y v, i.personal.few))
slot_own false true a b l x y i u v e = absurd (omega (arith, e, place_inside a l.personal x u, i.personal.few))

slots_among : (l : Scripts) → IsLibrary l → (count : ℕ) → count ≤ 64 → length l.personal ≤ count
    → (0 < length l.global → most_scripts + length l.global ≤ count) → HasSlots (library_of l) (slots_of l) count
slots_among l i count few p g = record {
  few = few;
  inside = λ s x h. slot_below l count p g s.global s.name (place_inside s.name (location_of s.global l) x h);
  own = λ s t x y h k e.
      let both = slot_own s.global t.global s.name t.name l x y i h k e in
      let pair : (s.global, s.name) ≡ (t.global, t.name) = let u : s.global ≡ t.global = both.0 in let v : s.name ≡ t.name = both.1 in cc in
      ap (λ (p : Bool × List ℕ). record { global = p.0; name = p.1 }) pair;
}

-- where no script is global, as many as there are personal ones
pub slots_personal : (l : Scripts) → IsLibrary l → (count : ℕ) → count ≡ length l.personal → length l.global ≡ 0
    → HasSlots (library_of l) (slots_of l) count
slots_personal l i count e none = slots_among l i count (omega (arith, e, i.personal.few)) (omega (arith, e)) (λ h. absurd (omega (arith, h, none)))

pub slots_global : (l : Scripts) → IsLibrary l → (count : ℕ) → count ≡ most_scripts + length l.global → HasSlots (library_of l) (slots_of l) count
slots_global l i count e = slots_among l i count (omega (arith, e, i.global.few)) (omega (arith, e, i.personal.few)) (λ _. omega (arith, e))

pub map_twice : {A B C : Type 0} (f : A → B) (g : B → C) (o : Option A) → option_map (λ a. g (f a)) o ≡ option_map g (option_map f o)
map_twice f g None = refl
map_twice f g (Some a) = refl

abbrev scripts : Option NamedScript → Option Script
scripts o = option_map (λ (e : NamedScript). e.script) o

-- the script whose slot this is, by its place in its location
pub personal_at : (l : Scripts) (slot : ℕ) → slot < most_scripts → (o : Option Script)
    → o ≡ scripts (slice_get l.personal slot) → IsAt l slot (option_map program o)
personal_at l slot low o is s x h at = by s.global s.name h at
  where
    by : (g : Bool) (name : List ℕ) → option_map program (script_under name (location_of g l)) ≡ Some x
        → first_slot g + place_of name (location_of g l) ≡ slot → option_map program o ≡ Some x
    by true name k e = absurd (omega (arith, e, low))
    by false name k e = let place : slot ≡ place_of name l.personal = omega (arith, e) in
        ap (option_map program) (is ∙ ap (λ (n : ℕ). scripts (slice_get l.personal n)) place)
        ∙ place_at name l.personal x k

pub global_at : (l : Scripts) → IsLocation l.personal → (slot : ℕ) → most_scripts ≤ slot → (o : Option Script)
    → o ≡ scripts (slice_get l.global (slot - most_scripts)) → IsAt l slot (option_map program o)
global_at l i slot high o is s x h at = by s.global s.name h at
  where
    by : (g : Bool) (name : List ℕ) → option_map program (script_under name (location_of g l)) ≡ Some x
        → first_slot g + place_of name (location_of g l) ≡ slot → option_map program o ≡ Some x
    by false name k e = absurd (let inside = place_inside name l.personal x k in omega (arith, e, high, inside, i.few))
    by true name k e = let place : slot - most_scripts ≡ place_of name l.global = omega (arith, e) in
        ap (option_map program) (is ∙ ap (λ (n : ℕ). scripts (slice_get l.global n)) place) ∙ place_at name l.global x k

-- FEWEST

-- the last script of a location is found at its name, after all others
last_found : (e : NamedScript) (es : List NamedScript) → EachOnce (e ∷ es) → (x : NamedScript)
    × ((find (is_named x.name) (e ∷ es) ≡ Some x) × (place_of x.name (e ∷ es) ≡ length es))
last_found e [] once =
    let self : is_named e.name e ≡ true = (bytes_eq-Decides e.name e.name).1 refl in
    (e, (ap (λ b. cond b (Some e) None) self, ap (λ b. cond (not b) 1 0) self))
last_found e (d ∷ ds) once =
    let last = last_found d ds once.1 in
    let other : is_named last.0.name e ≡ false =
    other_name e.name last.0.name (λ same. cc (sym once.0 ∙ ap (λ a. script_under a (d ∷ ds)) same
    ∙ ap (option_map (λ (y : NamedScript). y.script)) last.1.0)) in (
      last.0,
      (
        ap (λ b. cond b (Some e) (find (is_named last.0.name) (d ∷ ds))) other
            ∙ last.1.0,
        ap (λ b. cond (not b) (1 + place_of last.0.name (d ∷ ds)) 0) other ∙ omega (arith, last.1.1),
      ),
    )

last_slot : (l : Scripts) (g : Bool) (e : NamedScript) (es : List NamedScript) → EachOnce (e ∷ es)
    → location_of g l ≡ e ∷ es → (n : ℕ) → HasSlots (library_of l) (slots_of l) n → first_slot g + length es < n
last_slot l g e es once is n h =
    let last = last_found e es once in
    let there = ap (λ (xs : List NamedScript). option_map program (script_under last.0.name xs)) is
    ∙ ap (λ (o : Option NamedScript). option_map program (option_map (λ (y : NamedScript). y.script) o)) last.1.0 in
    let inside : first_slot g + place_of last.0.name (location_of g l) < n =
    h.inside (record { global = g; name = last.0.name }) (program last.0.script) there in
    let at : place_of last.0.name (location_of g l) ≡ length es = ap (place_of last.0.name) is ∙ last.1.1 in
    omega (arith, inside, at)

-- as many as there are personal scripts
pub least_personal : (l : Scripts) → IsLibrary l → (n : ℕ) → HasSlots (library_of l) (slots_of l) n → length l.personal ≤ n
least_personal l i n h = by l.personal refl i.personal.once
  where
    by : (es : List NamedScript) → l.personal ≡ es → EachOnce es → length es ≤ n
    by [] is once = omega arith
    by (e ∷ es) is once = let few = last_slot l false e es once is n h in omega (arith, few)

-- and where a script is global, as many as there are global ones after those of a full location
pub least_global : (l : Scripts) → IsLibrary l → 0 < length l.global → (n : ℕ) → HasSlots (library_of l) (slots_of l) n
    → most_scripts + length l.global ≤ n
least_global l i some n h = by l.global refl i.global.once some
  where
    by : (es : List NamedScript) → l.global ≡ es → EachOnce es → 0 < length es → most_scripts + length es ≤ n
    by [] is once some = absurd (omega (arith, some))
    by (e ∷ es) is once some = let few = last_slot l true e es once is n h in omega (arith, few)
