-- What a command line asks: the table of the commands.
use Rattle.std.specs.Prelude.{ℕ, List, [], ◌∷◌, Option, Some, None}
use Rattle.desk_commands.specs.Office.{add_class, set_plan, set_script, set_global, activate, deactivate, set_image, file, try_image, hold, release, due, destroy}
use Rattle.desk_commands.specs.Standing.{Command, plain, begin, turn, finish}
use Rattle.session_words.specs.Words.{words_of, number_up_to, greatest_number, greatest_length}
use Rattle.session_words.specs.Verbs.{verb_of}
use Rattle.session_protocol.specs.Words.{greatest_count, name_of, next_as}
use Rattle.session_protocol.specs.Dates.{day_of}
use Rattle.session_protocol.specs.Commands.{command_of, one_command, two_command}
use Rattle.session_protocol.specs.declared.requests.Request.{Request}
use Rattle.session_protocol.specs.declared.requests.Request.TheVariants as ask
use Rattle.session_words.specs.declared.verbs.Verb.{Verb}
use Rattle.session_words.specs.declared.verbs.Verb.TheVariants as verb

-- what a line asks
pub data LineRequest : Type 0 where
  -- a command that has no payload
  Alone : Command → LineRequest
  -- a command of a payload, which has this length in octets
  One : (size : ℕ) → (List ℕ → Command) → LineRequest
  -- a command of two payloads, which have these lengths in octets
  Two : (first second : ℕ) → (List ℕ → List ℕ → Command) → LineRequest
  -- to end
  Quit : LineRequest
  -- nothing: its first word names no command
  Unknown : LineRequest
  -- nothing: a word, or the number of words, is wrong
  BadWord : LineRequest

-- ---- what the words after a command's name ask, word by word

abbrev pub Arguments : Type 0
Arguments = List (List ℕ) → LineRequest

-- a word that is missing, or not of its kind, is wrong
abbrev pub with_word : {A : Type 0} → Option (A × List (List ℕ)) → (A → Arguments) → LineRequest
with_word (Some next) more = more next.0 next.1
with_word None more = BadWord

-- any word, also an empty one
abbrev pub path : (List ℕ → Arguments) → Arguments
path more words = with_word (next_as Some words) more

abbrev pub name : (List ℕ → Arguments) → Arguments
name more words = with_word (next_as name_of words) more

-- the number of a record, a ticket or a moment
abbrev pub number : (ℕ → Arguments) → Arguments
number more words = with_word (next_as (number_up_to greatest_number) words) more

-- the number of steps that a TURN grants
abbrev pub count : (ℕ → Arguments) → Arguments
count more words = with_word (next_as (number_up_to greatest_count) words) more

abbrev pub day : (ℕ → Arguments) → Arguments
day more words = with_word (next_as day_of words) more

-- the length of a payload
abbrev pub size : (ℕ → Arguments) → Arguments
size more words = with_word (next_as (number_up_to greatest_length) words) more

-- no more words
abbrev pub done : LineRequest → Arguments
done request [] = request
done request (word ∷ words) = BadWord

abbrev pub alone : Command → Arguments
alone command = done (Alone command)

-- the length of the payload is the last word
abbrev pub payload : (List ℕ → Command) → Arguments
payload command = size λ octets. done (One octets command)

-- those of both payloads are the last words
abbrev pub payloads : (List ℕ → List ℕ → Command) → Arguments
payloads command = size λ first. size λ second. done (Two first second command)

-- ---- the table

-- each command: the words after its name with the payloads that these announce, and what it is to the desk
unfoldable pub row : Verb → Arguments
row verb.Class = path λ class. alone (plain (add_class class))
row verb.Plan = payload λ text. plain (set_plan text)
row verb.Script = name λ officer. name λ script. payload λ text. plain (set_script officer script text)
row verb.Global = name λ script. payload λ text. plain (set_global script text)
row verb.Active = name λ officer. name λ script. alone (plain (activate officer script))
row verb.Inactive = name λ officer. alone (plain (deactivate officer))
row verb.Image = name λ officer. payload λ image. plain (set_image officer image)
row verb.File = payloads λ script message. plain (file script message)
row verb.Try = payloads λ image message. plain (try_image image message)
row verb.Begin = name λ officer. number λ moment. payload λ message. begin officer moment message
row verb.Turn = number λ ticket. count λ steps. alone (turn ticket steps)
row verb.Finish = number λ ticket. alone (finish ticket)
row verb.Hold = name λ hold_name. number λ n. alone (plain (hold hold_name n))
row verb.Release = name λ hold_name. number λ n. alone (plain (release hold_name n))
row verb.Due = day λ last. alone (plain (due last))
row verb.Destroy = number λ n. day λ last. alone (plain (destroy n last))
row verb.Quit = done Quit

abbrev pub request_by_verb : Option Verb → Arguments
request_by_verb (Some v) words = row v words
request_by_verb None words = Unknown

-- the first word is the command's name
abbrev pub request_of_words : List (List ℕ) → LineRequest
request_of_words [] = Unknown
request_of_words (word ∷ words) = request_by_verb (verb_of word) words

unfoldable pub request_of : (line : List ℕ) → LineRequest
request_of line = request_of_words (words_of line)

-- ---- a request as the program has it

abbrev pub request_view : Request → LineRequest
request_view (ask.Alone command) = Alone (command_of command)
request_view (ask.One command octets) = One octets (one_command command)
request_view (ask.Two command first second) = Two first second (two_command command)
request_view ask.Quit = Quit
request_view ask.Unknown = Unknown
request_view ask.BadWord = BadWord

-- what was read of a command's words, where no more than these are left
abbrev pub request_at_end : Option Request → Arguments
request_at_end (Some request) words = done (request_view request) words
request_at_end None words = BadWord
