use Rattle.std.proofs.Common.{◌<◌, ◌^◌, length, subst}
use Rattle.std.proofs.lemmas.List.{length-map}
use Rattle.std.proofs.lemmas.List.Elements.{All-map}
use Rattle.filing_image.specs.Program.{Program, parts, instruction_of}
use Rattle.filing_image.specs.Spelling.{Fits}
use Rattle.filing_image.proofs.image.Image.fits.Goals as goal

pub returns : goal.returns
returns c =
    let i = c.self.inside in
    let v = c.self.invariant in
    subst (λ (p : Program). Fits (parts p)) c.self.view_is (record {
      octets = record {
        short = record {
          text_count = rw (length-map i.texts.items (λ t. t.items)) v.0;
          number_count = v.1;
          procedure_count = v.8;
          instruction_count = rw (length-map i.code.items instruction_of) v.2;
          texts = All-map (λ t. length t < 2 ^ 16) (λ t. t.items) i.texts.items v.3;
        };
        budget = v.6;
        slots = v.7;
        numbers = v.4;
        firsts = v.9;
        instructions = v.5;
      };
      operations = v.10;
    })
