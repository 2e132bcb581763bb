-- The commands of a session: the first word of each.
use Rattle.std.specs.Prelude.{ℕ, List, [], ◌∷◌, if◌then◌else◌, Option, Some, None, codes, map}
use Rattle.std.specs.Str.{bytes_eq}
use Rattle.session_words.specs.declared.verbs.Verb.{Verb}
use Rattle.session_words.specs.declared.verbs.Verb.TheVariants as verb

-- the first word of the lines of a command
unfoldable pub first_word : Verb → List ℕ
first_word verb.Class = codes "CLASS"
first_word verb.Plan = codes "PLAN"
first_word verb.Script = codes "SCRIPT"
first_word verb.Global = codes "GLOBAL"
first_word verb.Active = codes "ACTIVE"
first_word verb.Inactive = codes "INACTIVE"
first_word verb.Image = codes "IMAGE"
first_word verb.File = codes "FILE"
first_word verb.Try = codes "TRY"
first_word verb.Begin = codes "BEGIN"
first_word verb.Turn = codes "TURN"
first_word verb.Finish = codes "FINISH"
first_word verb.Hold = codes "HOLD"
first_word verb.Release = codes "RELEASE"
first_word verb.Due = codes "DUE"
first_word verb.Destroy = codes "DESTROY"
first_word verb.Quit = codes "QUIT"

abbrev pub entry_of : Verb → List ℕ × Verb
entry_of v = (first_word v, v)

abbrev pub verbs : List (List ℕ × Verb)
verbs = map entry_of (verb.Class ∷ verb.Plan ∷ verb.Script ∷ verb.Global ∷ verb.Active ∷ verb.Inactive ∷ verb.Image
    ∷ verb.File ∷ verb.Try ∷ verb.Begin ∷ verb.Turn ∷ verb.Finish ∷ verb.Hold ∷ verb.Release ∷ verb.Due ∷ verb.Destroy
    ∷ verb.Quit ∷ [])

abbrev pub verb_in : List (List ℕ × Verb) → (word : List ℕ) → Option Verb
verb_in [] word = None
verb_in (entry ∷ entries) word = if bytes_eq entry.0 word then Some entry.1 else verb_in entries word

-- the command of that name
unfoldable pub verb_of : (word : List ℕ) → Option Verb
verb_of word = verb_in verbs word
