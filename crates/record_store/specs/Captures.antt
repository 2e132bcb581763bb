-- What a capture adds to the tables, and the lines that it answers.
use Rattle.std.specs.Prelude.{◌≡◌, ℕ, ◌+◌, ℤ, pos, unsigned_abs, option_map, List, [], ◌∷◌, ◌++◌, map, Option, Some, None, IfSome, Result, Vec}
use Rattle.std.specs.declared.alloc.Global.{Global}
use Rattle.sqlite.specs.Store.{Ghosts}
use Rattle.sqlite.specs.Effect.{Database}
use Rattle.sqlite.specs.Held.{Held}
use Rattle.jiff.specs.Words.{epoch_day, IsBetween}
use Rattle.class_plan.specs.Plans.{Listing}
use Rattle.class_plan.specs.Calendar.{due_on}
use Rattle.record_archive.specs.Archive.{Message, Record, Line, records_of, capture, capture_lines}
use Rattle.record_tables.specs.Rows.{Tables, Due}
use Rattle.record_tables.specs.Changes.{TurnsAlone, IsPastMessages, IsPastRecords, AreAscending, new_message}
use Rattle.record_tables.specs.Steps.{PutsOnOk}
use Rattle.record_archive.specs.Lines.{line_view}
use Rattle.record_store.specs.Companions.{ObeysReady}
use Rattle.record_store.specs.Stores.{Obeys}
use Rattle.record_store.specs.Faults.{StoreFault}
use Rattle.record_store.specs.declared.store.Store.{Store}
use Rattle.record_archive.specs.declared.line.Line as code

abbrev pub with_records : List Record → Tables → Tables
with_records rs t = record t { records = t.records ++ rs }

abbrev pub with_more_dues : List Due → Tables → Tables
with_more_dues ds t = record t { dues = t.dues ++ ds }

abbrev pub with_captured : Message → List Record → List Due → Tables → Tables
with_captured m rs ds t = record t { messages = t.messages ++ m ∷ []; records = t.records ++ rs; dues = t.dues ++ ds }

-- the due days of the table, with these after them, ascend
abbrev pub AreAfter : List Due → Tables → Type 0
AreAfter ds t = AreAscending (t.dues ++ ds)

-- each message and record has a number below this one, and these due days come after those of the table
abbrev pub ArePast : ℕ → List Due → Tables → Type 0
ArePast n ds t = IsPastMessages n t × IsPastRecords n t × AreAfter ds t

-- a line for each path, by the plan, numbered upwards
abbrev pub lines_of : Listing → ℕ → ℕ → List (List ℕ) → List Line
lines_of p n day [] = []
lines_of p n day (q ∷ qs) = record { number = n; path = q; due = option_map pos (due_on p q day) } ∷ lines_of p (n + 1) day qs

abbrev pub due_before : ℕ → Option ℤ → List Due → List Due
due_before n None ds = ds
due_before n (Some day) ds = record { number = n; day = unsigned_abs day } ∷ ds

-- the due days of lines
abbrev pub dues_of_lines : List Line → List Due
dues_of_lines [] = []
dues_of_lines (l ∷ ls) = due_before l.number l.due (dues_of_lines ls)

-- the due date, if there is one, has a day number of 1970 to 9999
abbrev pub HasDueDay : code.Line → Type 0
HasDueDay l = IfSome l.due (λ d. IsBetween (pos 0) (pos 2932896) (epoch_day d))

-- a message, its records numbered upwards from its own number, and these due days are added
abbrev pub with_capture : (first : ℕ) → (body : List ℕ) → (day : ℕ) → (paths : List (List ℕ)) → List Due → Tables → Tables
with_capture first body day paths ds = with_captured (new_message first body) (records_of first first day paths) ds

-- the change of a capture, which leaves tables of other names alone
abbrev pub IsCaptured : (first : ℕ) → (body : List ℕ) → (day : ℕ) → (paths : List (List ℕ)) → List Due → (old new : Database) → Type 0
IsCaptured first body day paths ds old new = TurnsAlone old new (ArePast first ds) (with_capture first body day paths ds)

-- the same in a transaction that continues, where the call succeeds
abbrev pub PutsCapture : {S T E : Type 0} → Ghosts S → (old new : Held S) → Result T E → (first : ℕ) → (body : List ℕ) → (day : ℕ) →
    (paths : List (List ℕ)) → List Due → Type 0
PutsCapture g old new result first body day paths ds = PutsOnOk g old new result (ArePast first ds) (with_capture first body day paths ds)

-- a call carries out a capture on a day, and answers a line for each new record
abbrev pub ObeysCapture : {S : Type 0} → Ghosts S → (old new : Store S) → Result (Vec code.Line Global) StoreFault →
    (body : List ℕ) → (day : ℕ) → (paths : List (List ℕ)) → Type 0
ObeysCapture g old new result body day paths = Obeys g old new result (λ a. capture a body day paths)
    (λ a lines. map line_view lines.items ≡ capture_lines a day paths)

-- the same beside a companion, where there is what it needs
abbrev pub ObeysCaptureReady : {S : Type 0} → Ghosts S → (Database → Type 0) → (old new : Store S) →
    Result (Vec code.Line Global) StoreFault → (body : List ℕ) → (day : ℕ) → (paths : List (List ℕ)) → Type 0
ObeysCaptureReady g Needs old new result body day paths = ObeysReady g Needs old new result (λ a. capture a body day paths)
    (λ a lines. map line_view lines.items ≡ capture_lines a day paths)
