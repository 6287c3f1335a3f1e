use Rattle.ctt_desk.proofs.PublishedLemmas.{comes}
use Rattle.ctt_desk.proofs.publisher.Publisher.place.Goals as goal

pub reader-requires : goal.reader-requires
reader-requires g c = λ x views h. comes _ _ _ _ _ views h
