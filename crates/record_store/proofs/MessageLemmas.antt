-- The message of a record.
use Rattle.std.proofs.Common.{◌≡◌, ◌==◌, ℕ, Bool, true, false, cond, if◌then◌else◌, List, [], ◌∷◌, find, Option, Some, None, option_map}
use Rattle.std.proofs.Common.{Result, Ok, Err, refl, sym, ap, ◌∙◌}
use Rattle.sqlite.specs.Effect.{Database}
use Rattle.record_archive.specs.Archive.{Message, Record, Archive, IsArchive, body_of, has_number, message, message_one, record_at}
use Rattle.record_archive.specs.declared.fault.ArchiveRefusal.{ArchiveRefusal}
use Rattle.record_archive.specs.declared.fault.ArchiveRefusal.TheVariants as refusal
use Rattle.record_reads.specs.Lookups.{body_with, live_body_in, live_body_with}
use Rattle.record_adoption.specs.Keeping.{StoresArchive}
use Rattle.record_store.specs.Messages.{body_in}
use Rattle.record_store.proofs.Causes.{body_is_there}

found_body : (ms : List Message) (n : ℕ) → option_map (λ (m : Message). m.body) (find (λ (m : Message). m.number == n) ms) ≡ body_of ms n
found_body [] n = refl
found_body (m ∷ ms) n = go (m.number == n) (found_body ms n)
  where
    go : (b : Bool) → option_map (λ (m : Message). m.body) (find (λ (m : Message). m.number == n) ms) ≡ body_of ms n
        → option_map (λ (m : Message). m.body) (cond b (Some m) (find (λ (m : Message). m.number == n) ms)) ≡ cond b (Some m.body) (body_of ms n)
    go true more = refl
    go false more = more

-- the message in the tables is the archive's
pub body_told : (n : ℕ) (a : Archive) (db : Database) (s : StoresArchive db a) → body_with n s.tables ≡ body_of a.messages n
body_told n a db s = found_body s.tables.messages n ∙ ap (λ ms. body_of ms n) s.keeps.messages

abbrev body_if : Bool → Option (List ℕ) → Result (Option (List ℕ)) ArchiveRefusal
body_if destroyed body = if destroyed then Err refusal.Destroyed else Ok body

-- the message of a live record in the tables is the archive's
pub live_told : (n : ℕ) (a : Archive) (db : Database) (s : StoresArchive db a) → live_body_with n s.tables ≡ body_in (message a n)
live_told n a db s = ap (λ rs. live_body_in s.tables (find (has_number n) rs)) s.keeps.records ∙ go (record_at a n)
  where
    told : (r : Record) (b : Bool) → cond b None (body_with r.message s.tables) ≡ body_in (body_if b (body_of a.messages r.message))
    told r true = refl
    told r false = body_told r.message a db s

    go : (o : Option Record) → live_body_in s.tables o ≡ body_in (message_one a o)
    go None = refl
    go (Some r) = told r r.destroyed

pub read_told : (read : Result (Option (List ℕ)) ArchiveRefusal) (body : List ℕ) → Some body ≡ body_in read → read ≡ Ok (Some body)
read_told (Ok found) body e = ap Ok (sym e)
read_told (Err why) body e = absurd (let h = e in cc)

-- a live record has a message that is read
pub live_is_read : (a : Archive) (n : ℕ) (r : Record) → IsArchive a → record_at a n ≡ Some r → r.destroyed ≡ false → None ≡ body_in (message a n) → ⊥
live_is_read a n r is at live none =
    body_is_there a n r is at live
    (none ∙ ap (λ o. body_in (message_one a o)) at ∙ ap (λ b. body_in (body_if b (body_of a.messages r.message))) live)
