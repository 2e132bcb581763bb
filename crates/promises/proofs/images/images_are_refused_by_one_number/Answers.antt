use Rattle.promises.proofs.ImageLemmas.{refused_for_memory}
use Rattle.promises.proofs.Verdicts.{one_image_refusal}
use Rattle.promises.proofs.images.images_are_refused_by_one_number.Goals as goal

pub returns-clause-accepted : goal.returns-clause-accepted
returns-clause-accepted c = refused_for_memory c.one_spelling.ensures

pub returns-clause-refused : goal.returns-clause-refused
returns-clause-refused c = one_image_refusal c.one_spelling.ensures
