use Rattle.uz_debug.proofs.SessionLaws.{acts_same, prints_same}
use Rattle.uz_debug.proofs.laws.session_is_unique.Goals as goal

pub returns-clause-reply : goal.returns-clause-reply
returns-clause-reply c = λ start old a b command x y p q. (acts_same start old a b command x y p q).0

pub returns-clause-session : goal.returns-clause-session
returns-clause-session c = λ start old a b command x y p q. (acts_same start old a b command x y p q).1

pub returns-clause-text : goal.returns-clause-text
returns-clause-text c = λ start old m n commands x y p q. (prints_same start old commands x y m n p q).0
