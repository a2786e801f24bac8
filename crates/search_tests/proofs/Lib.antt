mod AllSuit
