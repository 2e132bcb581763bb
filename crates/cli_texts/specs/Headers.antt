-- The texts that a record has of its message's header.
use Rattle.std.specs.Prelude.{ℕ, List, [], Option, Some, None, codes}
use Rattle.std.specs.Option.{option_or}
use Rattle.cli_texts.specs.declared.headers.Headers.{Headers}
use Rattle.cli_texts.specs.declared.headers.ListedHeaders.{ListedHeaders}
use Rattle.cli_texts.specs.declared.headers.ListedHeaders.TheVariants.{Unasked, Destroyed, Texts}
use Rattle.mail_head.specs.Fields.{fields_of}
use Rattle.mail_display.specs.Display.{display_text}
use Rattle.mail_display.specs.Fields.{body_called}

-- what is shown of a body; nothing where there is none
abbrev pub text_of : Option (List ℕ) → List ℕ
text_of None = []
text_of (Some body) = display_text body

-- of a message's first From, or else of its first Sender
abbrev pub sender_of : List ℕ → List ℕ
sender_of message = text_of (option_or (body_called (codes "from") (fields_of message)) (body_called (codes "sender") (fields_of message)))

abbrev pub subject_of : List ℕ → List ℕ
subject_of message = text_of (body_called (codes "subject") (fields_of message))

abbrev pub date_of : List ℕ → List ℕ
date_of message = text_of (body_called (codes "date") (fields_of message))

-- the texts that are to be listed: they are asked for, and the message is not destroyed
abbrev pub texts_in : ListedHeaders → Option Headers
texts_in Unasked = None
texts_in Destroyed = None
texts_in (Texts headers) = Some headers.now
