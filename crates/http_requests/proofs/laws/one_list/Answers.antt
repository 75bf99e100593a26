use Rattle.http_requests.proofs.Unique.{unique}
use Rattle.http_requests.proofs.laws.one_list.Goals as goal

pub returns : goal.returns
returns c bytes a b i j x y = unique bytes a b i j x y
